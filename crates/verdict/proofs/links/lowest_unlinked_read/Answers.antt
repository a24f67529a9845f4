use Rattle.std.proofs.Common.{◌≡◌, ◌∙◌, rules, tests}
use Rattle.std.proofs.lemmas.Iterator.{IsFirst-from_position, YieldsList-from_slice, YieldsList-from_zip}
use Rattle.graph.specs.View.{view}
use Rattle.graph.proofs.Soundness.{sound_of}
use Rattle.verdict.proofs.Unlinked.{Unsourced, first_unlinked}
use Rattle.verdict.proofs.links.lowest_unlinked_read.Goals as goal

pub returns : goal.returns
returns c =
    let g = view c.args.graph.now in
    let same : c.map.result ≡ c.position.result = search rules in
    record {
      the_lowest_read_without_a_source = same ∙ first_unlinked g (sound_of c.args.graph.now) c.position.result
          (IsFirst-from_position c.position.new.self _ c.position.result Unsourced (λ p. Unsourced p → ⊥) c.position.ensures.ran
          (YieldsList-from_zip (YieldsList-from_slice g.events cc) (YieldsList-from_slice g.sources cc))
          (λ x q k. search (rules, tests)) (λ x q k. search (rules, tests)));
    }
