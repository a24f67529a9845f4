use Rattle.std.proofs.Common.{ℕ, ◌<◌, Decides}
use Rattle.relation.specs.Table.{holds}
use Rattle.cycles.specs.Cycles.{Way}
use Rattle.relation.proofs.table.Relation.first_cycle.Given as goal

-- the ways by so many events, and none comes back by fewer
abbrev pub invariant-loop-between : goal.invariant-loop-between
invariant-loop-between l =
    ((x y : ℕ) → Decides (holds l.ways x y) (Way (holds l.self) l.between x y))
    × ((j a : ℕ) → j < l.between → Way (holds l.self) j a a → ⊥)
