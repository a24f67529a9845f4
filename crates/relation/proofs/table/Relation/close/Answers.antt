use Rattle.std.proofs.Common.{arith}
use Rattle.relation.specs.Table.{holds}
use Rattle.relation.proofs.Words.{holds_inside}
use Rattle.cycles.proofs.Reaching.{closed_none, closed_above, closed_more}
use Rattle.relation.proofs.table.Relation.close.Goals as goal

pub loop-a-init : goal.loop-a-init
loop-a-init c = closed_none (holds c.args.self.now) 256 (λ x y h. (holds_inside c.args.self.now x y h).0)

pub reached-reached-requires : goal.reached-reached-requires
reached-reached-requires c = closed_above _ _ c.loop-a.a c.loop-a.invariant (omega arith)

pub loop-a-preserved : goal.loop-a-preserved
loop-a-preserved c =
    closed_more _ _ c.loop-a.a c.loop-a.invariant (omega arith) _ c.reached-reached.ensures _ c.join_row.ensures.adds_just_those_pairs_of_a

pub returns : goal.returns
returns c = record { holds_just_what_one_or_more_steps_join = λ x y. c.loop-a.invariant.closed x y (omega arith) }
