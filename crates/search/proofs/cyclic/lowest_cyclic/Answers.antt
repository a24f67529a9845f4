use Rattle.std.proofs.Common.{rules}
use Rattle.std.proofs.lemmas.Iterator.{first_from_Range}
use Rattle.graph.specs.View.{view}
use Rattle.cycles.specs.Cycles.{Acyclic, Cyclic}
use Rattle.search.proofs.Laid.{lowest_by_turns}
use Rattle.search.proofs.cyclic.lowest_cyclic.Goals as goal

pub returns : goal.returns
returns g c =
    let m = g.M.Model.meaning c.args.model.now in
    let h = view c.args.graph.now in
    record {
      the_lowest_or_none_exactly_when_no_order_has_a_cycle = lowest_by_turns m h c.orders.result c.orders.ensures.as_many_as_it_means c.find.result
          (first_from_Range _ _ _ _ (λ k. Cyclic (m.pairs h k)) (λ k. Acyclic (m.pairs h k)) c.find.ensures.ran (λ x q k. search rules) (λ x q k. search rules));
    }
