use Rattle.std.proofs.Common.{◌≡◌, sym, ap, ◌∙◌, rules}
use Rattle.std.specs.List.{count_by}
use Rattle.event.specs.declared.event.Event.{Event}
use Rattle.event.specs.Labels.{is_write}
use Rattle.graph.specs.View.{view}
use Rattle.report.proofs.Counting.{writes_counted}
use Rattle.report.proofs.verdicts.writes_of.Goals as goal

pub returns-clause-counted : goal.returns-clause-counted
returns-clause-counted c =
    let events : c.count.result ≡ count_by (λ (e : Event). is_write e.label) c.events.result.now = search rules in
    events ∙ ap (count_by (λ (e : Event). is_write e.label)) c.events.ensures.all_events_in_order ∙ sym (writes_counted (view c.args.graph.now).events)
