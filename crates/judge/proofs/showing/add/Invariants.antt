use Rattle.std.proofs.Common.{◌≡◌, ◌++◌, take}
use Rattle.sequence.specs.Sequences.{items}
use Rattle.judge.proofs.showing.add.Given as goal

abbrev pub invariant-loop-event : goal.invariant-loop-event
invariant-loop-event l = items l.shown ≡ items l.initial.shown ++ take l.event-index l.events
