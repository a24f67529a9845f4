use Rattle.std.proofs.Common.{◌≡◌, ◌+◌, sym, ◌∙◌, arith, rules}
use Rattle.std.specs.List.{insert}
use Rattle.execution.specs.Entries.{place}
use Rattle.sequence.specs.Sequences.{items}
use Rattle.sequence.proofs.Fits.{items_fit}
use Rattle.graph.specs.View.{view}
use Rattle.graph.proofs.Stored.{not_denied, entered_sound, place_room, placed}
use Rattle.graph.proofs.tables.Graph.place.Goals as goal

pub overflow_add-at : goal.overflow_add-at
overflow_add-at c = omega (arith, c.in_ok-at.ensures.its_first_place.0, items_fit c.args.self.now.placed)

pub unwrap-requires : goal.unwrap-requires
unwrap-requires c = let room = place_room c.args.self.now c.args.write c.args.after c.in_ok-at.ensures.first_test_that_fails in search rules

pub invariant_of-self : goal.invariant_of-self
invariant_of-self c =
    let fits = c.in_ok-at.ensures.first_test_that_fails in
    let room = place_room c.args.self.now c.args.write c.args.after fits in
    let stored : items c.insert.new.self ≡ insert (items c.args.self.now.placed) (c.in_ok-at.at + 1) c.args.write = search rules in
    record { sound = entered_sound c.args.self.now (place c.args.write c.args.after) _ fits (placed c.args.self.now c.args.write c.args.after c.in_ok-at.at _ c.in_ok-at.ensures.its_first_place stored) }

pub returns-clause-one_step : goal.returns-clause-one_step
returns-clause-one_step c =
    let fits = c.in_ok-at.ensures.first_test_that_fails in
    let room = place_room c.args.self.now c.args.write c.args.after fits in
    let stored : items c.insert.new.self ≡ insert (items c.args.self.now.placed) (c.in_ok-at.at + 1) c.args.write = search rules in
    sym (placed c.args.self.now c.args.write c.args.after c.in_ok-at.at _ c.in_ok-at.ensures.its_first_place stored) ∙ not_denied (view c.args.self.now) (place c.args.write c.args.after) fits
