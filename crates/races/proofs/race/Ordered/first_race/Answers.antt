use Rattle.std.proofs.Common.{◌≡◌, None, Some, length, ap, rules}
use Rattle.graph.specs.View.{view}
use Rattle.relation.specs.Table.{holds}
use Rattle.races.specs.Partners.{LowestPartner}
use Rattle.verdict.proofs.Ranges.{first_given}
use Rattle.races.proofs.Racing.{first_race}
use Rattle.races.proofs.race.Ordered.first_race.Goals as goal

pub returns : goal.returns
returns c =
    let g = view c.args.self.now.graph.now in
    let hb = holds c.args.self.now.happens_before.now in
    first_race g hb c.find_map.result (length c.events.result.now) (ap length c.events.ensures.all_events_in_order)
    (first_given _ _ c.find_map.result (λ k. LowestPartner g hb k None) (λ k r. (r.first ≡ k) × LowestPartner g hb k (Some r.second))
    (λ a r q k. search rules) c.find_map.ensures.runs (λ k given. search rules) (λ k r given. search rules))
