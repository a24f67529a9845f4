use Rattle.execution.specs.Content.{po, rf, mo, rb}
use Rattle.graph.specs.View.{view}
use Rattle.boards.proofs.Laid.{four, at_order}
use Rattle.boards.proofs.sc.ScMemoryModel.lay.Goals as goal

pub returns-then-order-eq0 : goal.returns-then-order-eq0
returns-then-order-eq0 c = record {
  lays_exactly_the_pairs = λ a b.
      let g = view c.args.graph.now in
      at_order c.args.order _ _ c.if-order-eq0.true
      (four _ _ _ _ _ (po g a b) (rf g a b) (mo g a b) (rb g a b)
      (c.empty.ensures.holds_no_pair a b)
      (c.add_program_order.ensures.adds_exactly_program_order a b)
      (c.add_reads_from.ensures.adds_exactly_reads_from a b)
      (c.add_modification_order.ensures.adds_exactly_modification_order a b)
      (c.add_reads_before.ensures.adds_exactly_reads_before a b));
}
