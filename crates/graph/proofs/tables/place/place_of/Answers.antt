use Rattle.std.proofs.Common.{◌≡◌, rules, tests}
use Rattle.std.proofs.lemmas.Iterator.{IsFirst-from_position, YieldsList-from_slice}
use Rattle.graph.proofs.Behind.{first_place}
use Rattle.graph.proofs.tables.place.place_of.Goals as goal

pub returns : goal.returns
returns c = record {
  first_place_or_none = first_place c.args.placed.now c.args.write c.position.result
      (IsFirst-from_position _ _ c.position.result (λ x. x ≡ c.args.write) (λ x. x ≡ c.args.write → ⊥) c.position.ensures.ran (YieldsList-from_slice _ c.iter.ensures.rest) (λ x q k. search (rules, tests)) (λ x q k. search (rules, tests)));
}
