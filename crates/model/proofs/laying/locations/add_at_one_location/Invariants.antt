use Rattle.std.proofs.Common.{◌&&◌}
use Rattle.execution.specs.Content.{same_location}
use Rattle.graph.specs.View.{view}
use Rattle.relation.specs.Table.{holds}
use Rattle.model.proofs.Rows.{Rows}
use Rattle.model.proofs.laying.locations.add_at_one_location.Given as goal

abbrev pub invariant-loop-a : goal.invariant-loop-a
invariant-loop-a l = Rows (λ x y. holds l.order x y && same_location (view l.graph) x y) l.initial.table l.table l.a
