use Rattle.std.proofs.Common.{◌&&◌}
use Rattle.execution.specs.Content.{same_location, mo, rb}
use Rattle.graph.specs.View.{view}
use Rattle.boards.specs.Ra.{ra_hb}
use Rattle.boards.proofs.Laid.{three, at_order}
use Rattle.boards.proofs.ra.RaMemoryModel.lay.Goals as goal

pub returns-then-order-eq0 : goal.returns-then-order-eq0
returns-then-order-eq0 c = record {
  lays_exactly_the_pairs = λ a b.
      let g = view c.args.graph.now in
      at_order c.args.order _ _ c.if-order-eq0.true
      (three _ _ _ _ (ra_hb g a b && same_location g a b) (mo g a b) (rb g a b)
      (c.empty.ensures.holds_no_pair a b)
      (c.add_happens_before_at_one_location.ensures a b)
      (c.add_modification_order.ensures.adds_exactly_modification_order a b)
      (c.add_reads_before.ensures.adds_exactly_reads_before a b));
}
