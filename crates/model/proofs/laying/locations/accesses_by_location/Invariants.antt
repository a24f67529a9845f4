use Rattle.std.proofs.Common.{◌&&◌, ltb, Some}
use Rattle.event.specs.Labels.{agree, location}
use Rattle.execution.specs.Content.{label_of}
use Rattle.graph.specs.View.{view}
use Rattle.relation.specs.Table.{Is}
use Rattle.model.proofs.laying.locations.accesses_by_location.Given as goal

abbrev pub invariant-loop-a : goal.invariant-loop-a
invariant-loop-a l = Is l.accesses (λ x b. ltb b l.a && agree (location (label_of (view l.graph) b)) (Some x))
