use Rattle.std.proofs.Common.{◌≡◌, ℕ, ◌≤◌, false}
use Rattle.event_set.specs.Sets.{has}
use Rattle.relation.specs.Table.{holds}
use Rattle.relation.proofs.Unwinding.{Keeps}
use Rattle.relation.proofs.table.Relation.is_acyclic.Given as goal

-- what returns to itself is left, and nothing that was looked at
abbrev pub invariant-loop-a : goal.invariant-loop-a
invariant-loop-a l = Keeps (holds l.self) l.left × ((x : ℕ) → l.a ≤ x → has l.left x ≡ false)
