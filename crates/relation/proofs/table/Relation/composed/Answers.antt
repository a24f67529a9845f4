use Rattle.std.proofs.Common.{arith}
use Rattle.relation.proofs.Words.{holds_inside}
use Rattle.relation.proofs.table.Relation.composed.Goals as goal

pub returns : goal.returns
returns c = λ x y. (
  λ h. ((c.loop-a.invariant x y).0 h).1,
  λ w. (c.loop-a.invariant x y).1 (omega (arith, (holds_inside c.args.self.now x w.0 w.1).0), w),
)
