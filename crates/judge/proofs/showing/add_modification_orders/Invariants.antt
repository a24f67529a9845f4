use Rattle.std.proofs.Common.{◌≡◌, ◌++◌}
use Rattle.graph.specs.View.{view}
use Rattle.sequence.specs.Sequences.{items}
use Rattle.verdict.specs.Shown.{modification_order}
use Rattle.judge.proofs.Lists.{first_of}
use Rattle.judge.proofs.showing.add_modification_orders.Given as goal

abbrev pub invariant-loop-location : goal.invariant-loop-location
invariant-loop-location l = items l.shown ≡ items l.initial.shown ++ first_of (modification_order (view l.graph)) l.location
