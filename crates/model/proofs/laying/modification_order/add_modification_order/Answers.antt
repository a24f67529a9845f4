use Rattle.std.proofs.Common.{◌∷◌}
use Rattle.graph.specs.View.{view}
use Rattle.model.proofs.Sweeps.{write_turn, skip_turn, taken_back}
use Rattle.model.proofs.laying.modification_order.add_modification_order.Goals as goal

pub loop-write-preserved-in-Some-location_of : goal.loop-write-preserved-in-Some-location_of
loop-write-preserved-in-Some-location_of c =
    let was = c.loop-write.invariant in (
      c.in-Some.field-0.now ∷ was.0,
      taken_back _ _ _ _ _ was.1 c.in-Some.ensures.steps,
      write_turn (view c.args.graph.now) _ _ _ _ _ _ _ _ _ was.2
          c.row.ensures.has_just_the_seconds_of_a
          c.join_row.ensures.adds_just_those_pairs_of_a
          c.insert.ensures.adds_just_this_pair
          c.in-Some-location_of.ensures.of_every_access,
    )

pub loop-write-preserved : goal.loop-write-preserved
loop-write-preserved c =
    let was = c.loop-write.invariant in (
      c.in-Some.field-0.now ∷ was.0,
      taken_back _ _ _ _ _ was.1 c.in-Some.ensures.steps,
      skip_turn (view c.args.graph.now) _ _ _ _ _ was.2 c.in_default.ensures.of_every_access,
    )
