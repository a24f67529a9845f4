use Rattle.std.proofs.Common.{ℕ, ◌<◌, ◌≤◌, ◌&&◌, ltb, length, ap, ◌∙◌, subst}
use Rattle.graph.specs.View.{view}
use Rattle.graph.proofs.Soundness.{sound_of}
use Rattle.model.specs.Orders.{initial_order}
use Rattle.model.proofs.Parts.{initial_row, initial_first}
use Rattle.model.proofs.Rows.{one_row, all_rows}
use Rattle.model.proofs.laying.program_order.add_initial_order.Goals as goal

pub loop-write-preserved : goal.loop-write-preserved
loop-write-preserved c =
    let g = view c.args.graph.now in
    let a = c.loop-write.write in
    let locations = c.locations-locations.ensures.its_locations in
    let events = ap length c.events.ensures.all_events_in_order in
    one_row (initial_order g) _ _ _ a _
    (λ y.
    initial_row (length g.events) g.locations a y _ _ _ (sound_of c.args.graph.now).few_events
    (subst (λ (m : ℕ). a < m) locations c.loop-write-test.true)
    (c.below-others.ensures.has_just_those_below y ∙ ap (λ n. ltb y 256 && ltb y n) events)
    (c.below.ensures.has_just_those_below y ∙ ap (λ m. ltb y 256 && ltb y m) locations)
    (c.difference_with.ensures.has_the_events_of_this_alone y))
    c.loop-write.invariant c.join_row.ensures.adds_just_those_pairs_of_a

pub returns : goal.returns
returns c =
    let g = view c.args.graph.now in
    let a = c.loop-write.write in
    let all = subst (λ (m : ℕ). m ≤ a) c.locations-locations.ensures.its_locations c.loop-write-test.false in
    all_rows (initial_order g) _ _ g.locations a all (initial_first g) c.loop-write.invariant
