use Rattle.std.proofs.Common.{ℕ, ◌<◌, subst}
use Rattle.model.specs.Layered.{laid}
use Rattle.model.proofs.layers.barrier.BarrierMemoryModel.lay.Goals as goal

pub returns-then-order-orders : goal.returns-then-order-orders
returns-then-order-orders g c =
    record {
      lays_exactly_the_pairs = laid _ _ _ _ c.args.order _ (subst (λ (n : ℕ). c.args.order < n) c.orders.ensures.as_many_as_it_means c.if-order-orders.true)
          c.lay.ensures.lays_exactly_the_pairs c.add_fenced.ensures;
    }
