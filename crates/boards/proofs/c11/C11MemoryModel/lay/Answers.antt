use Rattle.std.proofs.Common.{◌&&◌}
use Rattle.execution.specs.Content.{same_location, rf, mo, rb}
use Rattle.graph.specs.View.{view}
use Rattle.boards.specs.C11.{c11_hb}
use Rattle.boards.proofs.Laid.{part_of, four, at_order}
use Rattle.boards.proofs.c11.C11MemoryModel.lay.Goals as goal

pub returns-then-order-eq0 : goal.returns-then-order-eq0
returns-then-order-eq0 c = record {
  lays_exactly_the_pairs = λ a b.
      let g = view c.args.graph.now in
      at_order c.args.order _ _ c.if-order-eq0.true
      (four _ _ _ _ _ (c11_hb g a b && same_location g a b) (rf g a b) (mo g a b) (rb g a b)
      (c.empty.ensures.holds_no_pair a b)
      (part_of _ _ _ (c11_hb g a b) (same_location g a b) (c.happens_before.ensures a b) (c.add_at_one_location.ensures.adds_exactly_those_of_one_location a b))
      (c.add_reads_from.ensures.adds_exactly_reads_from a b)
      (c.add_modification_order.ensures.adds_exactly_modification_order a b)
      (c.add_reads_before.ensures.adds_exactly_reads_before a b));
}
