use Rattle.event_set.specs.Sets.{has}
use Rattle.relation.specs.Table.{holds}
use Rattle.cycles.proofs.Reaching.{Reaches, unfinished}
use Rattle.relation.proofs.table.Relation.reached.Given as goal

abbrev pub invariant-loop-m : goal.invariant-loop-m
invariant-loop-m l = Reaches (holds l.self) l.a (has l.reached) (has l.ahead)

abbrev pub decreases-loop-m : goal.decreases-loop-m
decreases-loop-m l = unfinished (has l.reached) (has l.ahead)
