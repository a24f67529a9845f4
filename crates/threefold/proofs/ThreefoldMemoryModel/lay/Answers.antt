use Rattle.std.proofs.Common.{refl, arith}
use Rattle.execution.specs.Content.{po, rf, mo}
use Rattle.graph.specs.View.{view}
use Rattle.threefold.proofs.Orders.{is_first, is_second, is_third}
use Rattle.threefold.proofs.ThreefoldMemoryModel.lay.Goals as goal

pub returns-in-0 : goal.returns-in-0
returns-in-0 c = record {
  lays_exactly_the_pairs = λ a b.
      is_first c.args.order _ _ _ _ _ (omega arith) (c.empty.ensures.holds_no_pair a b) (c.add_coherence.ensures a b);
}

pub returns-in-1 : goal.returns-in-1
returns-in-1 c = record {
  lays_exactly_the_pairs = λ a b.
      let g = view c.args.graph.now in
      is_second c.args.order _ _ _ (po g a b) (rf g a b) _ _ _ (omega arith) refl (c.empty.ensures.holds_no_pair a b)
      (c.add_program_order.ensures.adds_exactly_program_order a b) (c.add_reads_from.ensures.adds_exactly_reads_from a b);
}

pub returns-in-2 : goal.returns-in-2
returns-in-2 c = record {
  lays_exactly_the_pairs = λ a b.
      let g = view c.args.graph.now in
      is_third c.args.order _ _ _ (po g a b) (mo g a b) _ _ _ (omega arith) refl (c.empty.ensures.holds_no_pair a b)
      (c.add_program_order-in-2.ensures.adds_exactly_program_order a b) (c.add_modification_order.ensures.adds_exactly_modification_order a b);
}
