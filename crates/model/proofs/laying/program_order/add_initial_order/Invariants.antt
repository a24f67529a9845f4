use Rattle.graph.specs.View.{view}
use Rattle.model.specs.Orders.{initial_order}
use Rattle.model.proofs.Rows.{Rows}
use Rattle.model.proofs.laying.program_order.add_initial_order.Given as goal

abbrev pub invariant-loop-write : goal.invariant-loop-write
invariant-loop-write l = Rows (initial_order (view l.graph)) l.initial.table l.table l.write
