use Rattle.std.proofs.Common.{suc, refl, arith, of_calls}
use Rattle.timing.proofs.least.Goals as goal

pub loop-round-preserved : goal.loop-round-preserved
loop-round-preserved g c = (
  search of_calls,
  λ n last e more. c.loop-round.invariant.1 (suc n) last (omega arith) (c.work.new.self, c.work.ensures, more),
)

pub returns : goal.returns
returns g c = record { each_round_was_worked_in_turn = (c.loop-round.work, c.loop-round.invariant.1 0 c.loop-round.work (omega arith) refl) }
