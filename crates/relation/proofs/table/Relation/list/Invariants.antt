use Rattle.std.proofs.Common.{◌-◌, min, length}
use Rattle.event_set.specs.Sets.{has}
use Rattle.relation.specs.Table.{holds}
use Rattle.relation.specs.Sequences.{events}
use Rattle.cycles.proofs.Listed.{Begun}
use Rattle.cycles.proofs.Queue.{Queue}
use Rattle.relation.proofs.table.Relation.list.Given as goal

abbrev pub invariant-loop-event : goal.invariant-loop-event
invariant-loop-event l = Begun (holds l.self) (min l.n 256) (events l.listed) × Queue (min l.n 256) (events l.listed) (has l.left)

abbrev pub decreases-loop-event : goal.decreases-loop-event
decreases-loop-event l = 256 - length (events l.listed)
