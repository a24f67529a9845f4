use Rattle.std.proofs.Common.{◌≡◌, T, length, ap, rules, arith, tests}
use Rattle.graph.specs.View.{view}
use Rattle.relation.specs.Table.{holds}
use Rattle.races.specs.Races.{races}
use Rattle.verdict.proofs.Ranges.{first_given}
use Rattle.races.proofs.Racing.{lowest_partner}
use Rattle.races.proofs.race.Ordered.lowest_partner.Goals as goal

pub returns : goal.returns
returns c =
    let g = view c.args.self.now.graph.now in
    let hb = holds c.args.self.now.happens_before.now in
    lowest_partner g hb c.args.first c.find_map.result (length c.events.result.now) (ap length c.events.ensures.all_events_in_order)
    (first_given _ _ c.find_map.result (λ k. T (races g hb c.args.first k) → ⊥) (λ k r. (r ≡ k) × T (races g hb c.args.first k))
    (λ a r q k. search rules) c.find_map.ensures.runs (λ k given. grind (arith, tests)) (λ k r given. grind (arith, tests)))
