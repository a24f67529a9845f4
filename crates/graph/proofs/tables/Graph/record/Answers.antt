use Rattle.std.proofs.Common.{◌≡◌, [], ◌∷◌, ◌++◌, length, None, rules}
use Rattle.execution.specs.Entries.{denial, record_event}
use Rattle.sequence.specs.Sequences.{items}
use Rattle.graph.specs.View.{view}
use Rattle.graph.proofs.Soundness.{sound_of}
use Rattle.graph.proofs.Stored.{entered_sound, recorded}
use Rattle.graph.proofs.tables.Graph.record.Goals as goal

pub unwrap-requires : goal.unwrap-requires
unwrap-requires c =
    let aligned : length (items c.args.self.now.sources) ≡ length (items c.args.self.now.events) = (sound_of c.args.self.now).aligned in
    search rules

pub invariant_of-self-2 : goal.invariant_of-self-2
invariant_of-self-2 c =
    let aligned : length (items c.args.self.now.sources) ≡ length (items c.args.self.now.events) = (sound_of c.args.self.now).aligned in
    let fits : None ≡ denial (view c.args.self.now) (record_event c.args.kind c.args.x) = search rules in
    let event : items c.push.new.self ≡ items c.args.self.now.events ++ c.in_ok-event.event ∷ [] = search rules in
    let source : items c.push-2.new.self ≡ items c.args.self.now.sources ++ None ∷ [] = search rules in
    let parsed = c.in_ok-event.ensures.that_event_or_the_first_test_that_fails in
    record { sound = entered_sound c.args.self.now (record_event c.args.kind c.args.x) _ fits (recorded c.args.self.now c.args.kind c.args.x c.in_ok-event.event _ _ parsed.0 parsed.1 event source) }
