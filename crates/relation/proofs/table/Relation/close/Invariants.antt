use Rattle.relation.specs.Table.{holds}
use Rattle.cycles.proofs.Reaching.{ClosedFrom}
use Rattle.relation.proofs.table.Relation.close.Given as goal

abbrev pub invariant-loop-a : goal.invariant-loop-a
invariant-loop-a l = ClosedFrom (holds l.initial.self) l.a (holds l.self)
