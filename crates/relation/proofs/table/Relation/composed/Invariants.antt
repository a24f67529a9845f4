use Rattle.std.proofs.Common.{ℕ, ◌<◌, Decides}
use Rattle.relation.specs.Table.{holds}
use Rattle.cycles.specs.Steps.{Then}
use Rattle.relation.proofs.table.Relation.composed.Given as goal

abbrev pub invariant-loop-a : goal.invariant-loop-a
invariant-loop-a l = (x y : ℕ) → Decides (holds l.all x y) ((x < l.a) × Then (holds l.self) (holds l.other) x y)
