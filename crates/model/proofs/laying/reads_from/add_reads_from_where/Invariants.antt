use Rattle.std.proofs.Common.{◌&&◌, ◌||◌, ltb}
use Rattle.execution.specs.Content.{rf}
use Rattle.graph.specs.View.{view}
use Rattle.relation.specs.Table.{holds, Is}
use Rattle.model.specs.Telling.{TellsPairs}
use Rattle.model.proofs.laying.reads_from.add_reads_from_where.Given as goal

abbrev pub invariant-loop-read : goal.invariant-loop-read
invariant-loop-read g l = (r : _) → TellsPairs (goal.F-post g l.passes) (rf (view l.graph)) r → Is l.table (λ a b. (ltb b l.read && r a b) || holds l.initial.table a b)
