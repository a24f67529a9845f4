use Rattle.std.proofs.Common.{◌≡◌, ℕ, ◌&&◌, ◌||◌, eqb}
use Rattle.event_set.specs.Sets.{has}
use Rattle.relation.specs.Table.{holds}
use Rattle.relation.proofs.table.Relation.transposed.Given as goal

-- what is done and what is left make up what was to do
abbrev pub invariant-loop-a : goal.invariant-loop-a
invariant-loop-a l = (x y : ℕ) → (holds l.back x y || (has l.a-iterator y && holds l.self y x)) ≡ holds l.self y x

abbrev pub invariant-loop-b : goal.invariant-loop-b
invariant-loop-b l = (x y : ℕ)
    → (holds l.back x y || (eqb y l.a && has l.b-iterator x)) ≡ (holds l.initial.back x y || (eqb y l.a && has l.initial.b-iterator x))
