use Rattle.std.proofs.Common.{◌≡◌, rules}
use Rattle.graph.specs.View.{view}
use Rattle.cycles.specs.Cycles.{Acyclic, FirstCycle}
use Rattle.relation.specs.Sequences.{events}
use Rattle.verdict.proofs.Ranges.{first_given}
use Rattle.judge.proofs.Orders.{first_found}
use Rattle.judge.proofs.under.Under.first_cycle.Goals as goal

pub returns : goal.returns
returns g c =
    let m = g.M.Model.meaning c.args.self.now.model.now in
    let h = view c.args.self.now.graph.now in
    first_found m h c.orders.result c.orders.ensures.as_many_as_it_means c.find_map.result
    (first_given _ _ c.find_map.result (λ k. Acyclic (m.pairs h k)) (λ k f. (f.0 ≡ k) × FirstCycle (m.pairs h k) (events f.1))
    (λ a r q k. search rules) c.find_map.ensures.runs (λ k given. search rules) (λ k f given. search rules))
