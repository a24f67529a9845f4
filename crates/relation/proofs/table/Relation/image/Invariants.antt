use Rattle.std.proofs.Common.{ℕ, T, ◌⊎◌}
use Rattle.event_set.specs.Sets.{has}
use Rattle.relation.specs.Table.{holds}
use Rattle.relation.proofs.table.Relation.image.Given as goal

-- what is there comes from an event of the set; each event of the set is still to come, or all that it leads to is there
abbrev pub invariant-loop-m : goal.invariant-loop-m
invariant-loop-m l =
    ((m : ℕ) → T (has l.m-iterator m) → T (has l.initial.m-iterator m))
    × ((y : ℕ) → T (has l.all y) → (m : ℕ) × T (has l.initial.m-iterator m) × T (holds l.self m y))
    × ((m y : ℕ) → T (has l.initial.m-iterator m) → T (holds l.self m y) → T (has l.m-iterator m) ⊎ T (has l.all y))
