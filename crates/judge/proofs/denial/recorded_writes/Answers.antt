use Rattle.std.proofs.Common.{◌&&◌, Some, ◌∙◌, rules}
use borrow.Author.Tests.{tests}
use Rattle.std.proofs.lemmas.Iterator.{YieldsList-from_slice}
use Rattle.std.proofs.lemmas.Iterator.Adapters.{YieldsList-from_skip}
use Rattle.std.proofs.lemmas.Iterator.Consumers.{YieldsList-at, YieldsList-from_filter, count_from_yields_List}
use Rattle.event.specs.declared.event.Event.{Event}
use Rattle.event.specs.Labels.{is_write, agree, location}
use Rattle.graph.specs.View.{view}
use Rattle.graph.proofs.Soundness.{sound_of}
use Rattle.judge.proofs.Tested.{recorded_past}
use Rattle.judge.proofs.denial.recorded_writes.Goals as goal

pub returns : goal.returns
returns c =
    let g = view c.args.graph.now in
    let l = c.args.location in
    let q = λ (e : Event). is_write e.label && agree (location e.label) (Some l) in
    count_from_yields_List c.filter.result _ c.count.ensures.ran
    (YieldsList-from_filter _ q (YieldsList-at c.filter.ensures.source (YieldsList-from_skip c.locations.result (YieldsList-from_slice c.events.result.now cc) c.skip-recorded.ensures.count)) c.filter.ensures.closure (λ x b f k. search (rules, tests)))
    ∙ recorded_past g (sound_of c.args.graph.now) c.events.result.now c.events.ensures.all_events_in_order l c.locations.result c.locations.ensures.its_locations
