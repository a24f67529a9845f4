use Rattle.std.proofs.Common.{length, sym, ap, ◌∙◌, subst, arith}
use Rattle.event.specs.declared.event.Event.{Event}
use Rattle.event.specs.Labels.{no_event}
use Rattle.graph.specs.View.{view}
use Rattle.event_set.specs.Sets.{has}
use Rattle.model.proofs.Places.{at_any}
use Rattle.model.proofs.Rows.{no_others, one_more, none_more}
use Rattle.model.proofs.laying.events.events_where.Goals as goal
use Rattle.model.proofs.laying.events.events_where.Goals.{then-passes, else-passes}

pub loop-a-preserved : goal.loop-a-preserved
loop-a-preserved g c = λ s t x.
    let a = c.loop-a.a in
    let all = c.events-event-items.ensures.all_events_in_order in
    let event = at_any c.events-event-items.result.now _ a _ no_event all c.loop-a-test.true in
    let here = t.told a c.passes.result (omega (arith, ap length all)) (subst (λ (e : Event). goal.F-post g c.args.passes e.label c.passes.result) event c.passes.ensures) in
    elim c.if-passes.branch [
      | then-passes w ↦ ap (λ u. has u x) w.found-is ∙ one_more s a x _ _ (sym here ∙ w.if-passes.true) (c.loop-a.invariant s t x) (w.insert.ensures.adds_just_this_one x)
      | else-passes w ↦ ap (λ u. has u x) w.found-is ∙ none_more s a x _ (sym here ∙ w.if-passes.false) (c.loop-a.invariant s t x)
    ]

pub returns : goal.returns
returns g c =
    let v = view c.args.graph.now in
    let many = ap length c.events-event-items.ensures.all_events_in_order in
    record { has_exactly_those_that_pass = λ s t x. no_others (length v.events) c.loop-a.a x _ _ (omega (arith, many)) (t.within x) (c.loop-a.invariant s t x) }
