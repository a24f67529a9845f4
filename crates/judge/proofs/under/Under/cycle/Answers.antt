use Rattle.graph.specs.View.{view}
use Rattle.judge.proofs.Orders.{cycle_by_table}
use Rattle.judge.proofs.under.Under.cycle.Goals as goal

pub returns : goal.returns
returns g c = cycle_by_table ((g.M.Model.meaning c.args.self.now.model.now).pairs (view c.args.self.now.graph.now) c.args.order) c.table_of.result
    c.table_of.ensures.has_exactly_the_pairs c.first_cycle.result c.first_cycle.ensures.none_exactly_when_there_is_no_cycle c.first_cycle.ensures.else_the_shortest_and_of_those_the_first
