use Rattle.std.proofs.Common.{ℕ, ◌+◌, ◌*◌, ◌<◌, get_or}
use Rattle.graph.specs.View.{view}
use Rattle.search.proofs.First.{Failed}
use Rattle.search.proofs.Left.{opens_from}
use Rattle.search.proofs.filling.+fill_fits.Given as goal

abbrev pub decreases-fill : goal.decreases-fill
decreases-fill g l = 2 * opens_from l.from (view l.graph.now)

abbrev pub decreases-fits : goal.decreases-fits
decreases-fits g l = 2 * opens_from l.from (view l.graph.now) + 1

abbrev pub invariant-fill-loop-after : goal.invariant-fill-loop-after
invariant-fill-loop-after g l = (k : ℕ) → k < l.after-index → Failed (g.M.Model.meaning l.model) l.from (view l.graph) l.write (get_or (view l.graph).placed k 0)
