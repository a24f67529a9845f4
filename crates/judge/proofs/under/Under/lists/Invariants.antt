use Rattle.graph.specs.View.{view}
use Rattle.sequence.specs.Sequences.{items}
use Rattle.judge.specs.Judges.{ListsShown}
use Rattle.judge.proofs.under.Under.lists.Given as goal

abbrev pub invariant-loop-order : goal.invariant-loop-order
invariant-loop-order g l = ListsShown (g.M.Model.meaning l.self.model.now) (view l.self.graph.now) l.order (items l.shown)
