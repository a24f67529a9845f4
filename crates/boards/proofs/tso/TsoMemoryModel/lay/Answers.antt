use Rattle.execution.specs.Content.{mo, rb}
use Rattle.graph.specs.View.{view}
use Rattle.boards.specs.Coh.{coh_order}
use Rattle.boards.specs.Tso.{ppo, rfe}
use Rattle.boards.proofs.Laid.{at_next_order}
use Rattle.boards.proofs.tso.TsoMemoryModel.lay.Goals as goal

pub returns-then-order-eq1 : goal.returns-then-order-eq1
returns-then-order-eq1 c = record {
  lays_exactly_the_pairs = λ a b.
      let g = view c.args.graph.now in
      at_next_order c.args.order _ _ _ _ _ (coh_order g a b) (ppo g a b) (rfe g a b) (mo g a b) (rb g a b) c.if-order-eq1.true
      (c.lay.ensures.lays_exactly_the_pairs a b)
      (c.add_preserved_program_order.ensures a b)
      (c.add_external_reads_from.ensures a b)
      (c.add_modification_order.ensures.adds_exactly_modification_order a b)
      (c.add_reads_before.ensures.adds_exactly_reads_before a b);
}
