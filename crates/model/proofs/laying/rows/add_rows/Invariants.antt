use Rattle.graph.specs.View.{view}
use Rattle.model.specs.Telling.{TellsRows}
use Rattle.model.proofs.Rows.{Rows}
use Rattle.model.proofs.laying.rows.add_rows.Given as goal

abbrev pub invariant-loop-a : goal.invariant-loop-a
invariant-loop-a g l = (r : _) → TellsRows (goal.F-post g l.row) (view l.graph) r → Rows r l.initial.table l.table l.a
