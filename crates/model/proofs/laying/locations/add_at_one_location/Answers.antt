use Rattle.std.proofs.Common.{ℕ, ◌+◌, Bool, ◌&&◌, length, sym, ap, ◌∙◌, subst, ap₂, arith}
use Rattle.event.specs.declared.event.Event.{Event}
use Rattle.event.specs.Labels.{no_event, location}
use Rattle.execution.specs.Content.{same_location}
use Rattle.graph.specs.View.{view}
use Rattle.execution.proofs.Tests.{right}
use Rattle.relation.specs.Table.{holds}
use Rattle.relation.specs.declared.table.Relation.{Relation}
use Rattle.model.proofs.Places.{at_any, access_among, one_location_row, no_location_row}
use Rattle.model.proofs.Rows.{Rows, one_row, empty_row, all_rows}
use Rattle.model.proofs.laying.locations.add_at_one_location.Goals as goal
use Rattle.model.proofs.laying.locations.add_at_one_location.Goals.{in-Some, in_default}

pub loop-a-preserved : goal.loop-a-preserved
loop-a-preserved c =
    let g = view c.args.graph.now in
    let order = c.args.order.now in
    let entry = c.args.table.now in
    let r : ℕ → ℕ → Bool = λ a b. holds order a b && same_location g a b in
    let a = c.loop-a.a in
    let event = at_any c.events-event-items.result.now g.events a _ no_event c.events-event-items.ensures.all_events_in_order c.loop-a-test.true in
    let its = ap (λ (e : Event). location e.label) event in
    elim c.match-location.branch [
      | in-Some w ↦
          subst (λ (t : Relation). Rows r entry t (a + 1)) (sym w.table-is)
          (one_row r entry _ _ a _
          (λ y.
          w.intersect_with.ensures.has_the_events_of_both y
          ∙ ap₂ (λ p q. p && q) (w.row-row.ensures.has_just_the_seconds_of_a y)
          (w.row.ensures.has_just_the_seconds_of_a y ∙ c.accesses_by_location-accesses.ensures w.in-Some.location y
          ∙ one_location_row g a y w.in-Some.location (w.in-Some.ensures.of_every_access ∙ its)))
          c.loop-a.invariant w.join_row.ensures.adds_just_those_pairs_of_a)
      | in_default w ↦
          subst (λ (t : Relation). Rows r entry t (a + 1)) (sym w.table-is)
          (empty_row r entry _ a (λ y. no_location_row g a y (holds order a y) (w.in_default.ensures.of_every_access ∙ its)) c.loop-a.invariant)
    ]

pub returns : goal.returns
returns c =
    let g = view c.args.graph.now in
    let order = c.args.order.now in
    let many = ap length c.events-event-items.ensures.all_events_in_order in
    record {
      adds_exactly_those_of_one_location = all_rows (λ a b. holds order a b && same_location g a b) _ _ (length g.events) c.loop-a.a (omega (arith, many))
          (λ x y h. access_among g x _ (right (holds order x y) _ h)) c.loop-a.invariant;
    }
