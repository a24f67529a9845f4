use Rattle.execution.specs.Content.{rb}
use Rattle.graph.specs.View.{view}
use Rattle.model.proofs.Rows.{Rows}
use Rattle.model.proofs.laying.reads_before.add_reads_before.Given as goal

abbrev pub invariant-loop-read : goal.invariant-loop-read
invariant-loop-read l = Rows (rb (view l.graph)) l.initial.table l.table l.read
