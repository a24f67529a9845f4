use Rattle.std.proofs.Common.{◌≡◌, ◌++◌, take, filter}
use Rattle.graph.specs.View.{view}
use Rattle.sequence.specs.Sequences.{items}
use Rattle.judge.specs.Sheets.{at_location}
use Rattle.judge.proofs.showing.add_modification_order.Given as goal

abbrev pub invariant-loop-write : goal.invariant-loop-write
invariant-loop-write l = items l.shown ≡ items l.initial.shown ++ filter (at_location (view l.graph) l.location) (take l.write-index l.write-items)
