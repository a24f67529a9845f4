use Rattle.std.proofs.Common.{ℕ, T}
use Rattle.event_set.specs.Sets.{has}
use Rattle.relation.specs.Table.{holds}
use Rattle.relation.proofs.Unwinding.{Keeps, size}
use Rattle.relation.proofs.table.Relation.+unwind.Given as goal

abbrev pub decreases-unwind : goal.decreases-unwind
decreases-unwind l = l.limit

abbrev pub invariant-loop-next : goal.invariant-loop-next
invariant-loop-next l =
    ((x : ℕ) → T (has l.left x) → T (has l.initial.left x))
    × (Keeps (holds l.self) l.initial.left → Keeps (holds l.self) l.left)

abbrev pub decreases-loop-next : goal.decreases-loop-next
decreases-loop-next l = size l.left
