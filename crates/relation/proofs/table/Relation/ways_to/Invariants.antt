use Rattle.std.proofs.Common.{ℕ, ◌<◌, Decides}
use Rattle.event_set.specs.Sets.{has}
use Rattle.relation.specs.Table.{holds}
use Rattle.cycles.specs.Cycles.{Way}
use Rattle.relation.proofs.table.Relation.ways_to.Given as goal

abbrev pub invariant-loop-k : goal.invariant-loop-k
invariant-loop-k l =
    ((x : ℕ) → Decides (has l.layer x) (Way (holds l.self) l.k x l.target))
    × ((j x : ℕ) → Decides (holds l.ways j x) ((j < l.k) × Way (holds l.self) j x l.target))
