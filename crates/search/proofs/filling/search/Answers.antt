use Rattle.graph.specs.View.{view}
use Rattle.graph.proofs.Soundness.{sound_of}
use Rattle.verdict.proofs.Growing.{cycle_forbids}
use Rattle.search.proofs.Walking.{found_full}
use Rattle.search.proofs.filling.search.Goals as goal

pub returns-in-Some : goal.returns-in-Some
returns-in-Some g c =
    let m = c.args.model.now in
    let cycle = c.in-Some.ensures.the_lowest_or_none_exactly_when_no_order_has_a_cycle in
    record {
      the_first_that_serves_or_none_exactly_when_none_does =
          cycle_forbids (view c.args.graph.now) (g.M.Model.meaning m) (sound_of c.args.graph.now)
          (g.met.M.Model.rules m)
          c.in-Some.field-0 cycle.0 cycle.1.0 cycle.1.1;
    }

pub returns-in-None : goal.returns-in-None
returns-in-None g c = record {
  the_first_that_serves_or_none_exactly_when_none_does = found_full (g.M.Model.meaning c.args.model.now) (view c.args.graph.now) c.fill.result c.fill.ensures;
}
