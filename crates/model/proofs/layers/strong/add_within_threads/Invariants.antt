use Rattle.graph.specs.View.{view}
use Rattle.model.specs.Layers.{within_threads}
use Rattle.model.proofs.Rows.{Rows}
use Rattle.model.proofs.layers.strong.add_within_threads.Given as goal

abbrev pub invariant-loop-a : goal.invariant-loop-a
invariant-loop-a l = Rows (within_threads l.threads (view l.graph)) l.initial.table l.table l.a
