use Rattle.std.proofs.Common.{◌<◌, ◌||◌, ap, ◌∙◌}
use Rattle.event_set.specs.Sets.{has}
use Rattle.relation.specs.Table.{holds}
use Rattle.event_set.specs.declared.event_set.EventSet.{EventSet}
use Rattle.event_set.proofs.Words.{has_inside}
use Rattle.cycles.proofs.Reaching.{Reaches, unfinished, reaches_none, step_closed, step_open, reaches_all}
use Rattle.relation.proofs.table.Relation.reached.Goals as goal
use Rattle.relation.proofs.table.Relation.reached.Goals.{After-union_with-in-Some, then-m-a, else-m-a}

pub loop-m-init : goal.loop-m-init
loop-m-init c = reaches_none (holds c.args.self.now) c.args.a _ c.row-reached.ensures.has_just_the_seconds_of_a

-- a turn of the loop
turned : (c : After-union_with-in-Some)
    → Reaches (holds c.args.self.now) c.args.a (has c.union_with-in-Some.new.self) (has c.if-m-a.ahead)
    × (unfinished (has c.union_with-in-Some.new.self) (has c.if-m-a.ahead) < unfinished (has c.loop-m.reached) (has c.loop-m.ahead))
turned c =
    let m = c.in-Some.m in
    let gives = c.in-Some.ensures.steps in
    let row = c.row-row.ensures.has_just_the_seconds_of_a in
    let low = has_inside c.loop-m.ahead m gives.0 in
    let joined = c.union_with-in-Some.ensures.has_the_events_of_either in
    elim c.if-m-a.branch [
      | then-m-a w ↦
          step_closed _ _ _ _ _ _ m c.loop-m.invariant gives.0 gives.2 row (λ x y. c.requires m x y w.if-m-a.true) low _ _
          (λ y. joined y ∙ ap (λ (s : EventSet). has c.loop-m.reached y || has s y) w.row-is)
          (λ x. ap (λ (s : EventSet). has s x) w.ahead-is ∙ w.difference_with.ensures.has_the_events_of_this_alone x)
      | else-m-a w ↦
          step_open _ _ _ _ _ _ m c.loop-m.invariant gives.0 gives.2 row low _ _ _
          w.difference_with-else-m-a.ensures.has_the_events_of_this_alone
          (λ y. joined y ∙ ap (λ (s : EventSet). has c.loop-m.reached y || has s y) w.row-is)
          (λ x. ap (λ (s : EventSet). has s x) w.ahead-is ∙ w.union_with.ensures.has_the_events_of_either x)
    ]

pub loop-m-preserved : goal.loop-m-preserved
loop-m-preserved c = (turned c).0

pub loop-m-smaller : goal.loop-m-smaller
loop-m-smaller c = (turned c).1

pub returns : goal.returns
returns c = reaches_all _ _ _ _ c.loop-m.invariant c.in_default.ensures.steps.0
