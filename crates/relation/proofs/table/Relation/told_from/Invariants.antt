use Rattle.relation.specs.Table.{holds}
use Rattle.relation.specs.Sequences.{events}
use Rattle.cycles.proofs.Telling.{Told}
use Rattle.relation.proofs.table.Relation.told_from.Given as goal

abbrev pub invariant-loop-k : goal.invariant-loop-k
invariant-loop-k l = Told (holds l.self) l.start l.between (events l.cycle) l.k l.here
