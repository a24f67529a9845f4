use Rattle.std.proofs.Common.{◌&&◌, ltb}
use Rattle.graph.specs.View.{view}
use Rattle.event_set.specs.Sets.{HasJust}
use Rattle.model.specs.Telling.{TellsEvents}
use Rattle.model.proofs.laying.events.events_where.Given as goal

abbrev pub invariant-loop-a : goal.invariant-loop-a
invariant-loop-a g l = (s : _) → TellsEvents (goal.F-post g l.passes) (view l.graph) s → HasJust l.found (λ x. ltb x l.a && s x)
