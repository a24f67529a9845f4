use Rattle.std.proofs.Common.{length, Some, ap, arith}
use Rattle.graph.specs.View.{view}
use Rattle.model.proofs.Places.{access_among}
use Rattle.model.proofs.Rows.{no_others}
use Rattle.model.proofs.laying.locations.accesses_by_location.Goals as goal

pub returns : goal.returns
returns c = λ l b.
    let g = view c.args.graph.now in
    no_others (length g.events) c.loop-a.a b _ _ (omega (arith, ap length c.events-event-items.ensures.all_events_in_order)) (access_among g b (Some l)) (c.loop-a.invariant l b)
