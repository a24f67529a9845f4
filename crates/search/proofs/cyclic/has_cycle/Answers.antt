use Rattle.graph.specs.View.{view}
use Rattle.search.proofs.Laid.{cyclic_by_table}
use Rattle.search.proofs.cyclic.has_cycle.Goals as goal

pub returns : goal.returns
returns g c = cyclic_by_table c.table_of.result ((g.M.Model.meaning c.args.model.now).pairs (view c.args.graph.now) c.args.order)
    c.table_of.ensures.has_exactly_the_pairs c.is_acyclic.result c.is_acyclic.ensures.true_exactly_when_there_is_no_cycle
