use Rattle.std.proofs.Common.{◌&&◌, ◌||◌, ◌∙◌, ap₂, rules}
use Rattle.execution.specs.Content.{label_of, po}
use Rattle.graph.specs.View.{view}
use Rattle.graph.proofs.Soundness.{sound_of}
use Rattle.event_set.specs.Sets.{has, HasJust}
use Rattle.relation.specs.Table.{holds}
use Rattle.model.specs.Layers.{strong_fence, fenced}
use Rattle.model.specs.Layered.{fenced_grows}
use Rattle.model.proofs.Places.{fence_among}
use Rattle.model.proofs.Rows.{into_empty}
use Rattle.model.proofs.layers.barrier.add_fenced.Goals as goal

pub returns : goal.returns
returns c =
    let g = view c.args.graph.now in
    let order = into_empty (po g) _ _ c.empty-order.ensures.holds_no_pair c.add_program_order.ensures.adds_exactly_program_order in
    let fences = c.events_where-fences.ensures.has_exactly_those_that_pass (λ a. strong_fence (label_of g a)) (record { within = fence_among g; told = λ a p l q. search rules }) in
    c.add_rows.ensures.adds_exactly_the_rows (fenced g) (record {
      within = λ a b h. (fenced_grows.inside g (sound_of c.args.graph.now) a b h).0;
      told = λ a row l q b.
          let its : HasJust row (λ y. holds c.add_program_order.new.table a y && (has c.events_where-fences.result a || has c.events_where-fences.result y)) = search rules in
          its b ∙ ap₂ (λ x y. x && y) (order a b) (ap₂ (λ x y. x || y) (fences a) (fences b));
    })
