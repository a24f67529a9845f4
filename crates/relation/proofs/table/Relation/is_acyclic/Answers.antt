use Rattle.std.proofs.Common.{arith}
use Rattle.std.proofs.lemmas.Bool.Decides.{nat_tests}
use Rattle.relation.specs.Table.{holds}
use Rattle.cycles.proofs.Tests.{failed}
use Rattle.event_set.proofs.Words.{has_outside}
use Rattle.relation.proofs.Words.{holds_inside}
use Rattle.cycles.proofs.Walks.{plus_inside, none_returns, cycles_are_returns}
use Rattle.relation.proofs.Unwinding.{goes_round}
use Rattle.relation.proofs.table.Relation.is_acyclic.Goals as goal

pub loop-a-init : goal.loop-a-init
loop-a-init c = (
  λ x p.
      let low = plus_inside (holds c.args.self.now) 256 (holds_inside c.args.self.now) p in
      let at = c.full-left.ensures.has_every_event x in
      grind (arith, nat_tests),
  λ x l. has_outside c.full-left.result x l,
)

pub returns-then-not-unwind : goal.returns-then-not-unwind
returns-then-not-unwind c = record {
  true_exactly_when_there_is_no_cycle =
      goes_round (holds c.args.self.now) 256 (holds_inside c.args.self.now) _ c.if-not-unwind.ensures.takes_it_or_steps_lead_on;
  there_is_a_cycle_exactly_when_an_event_reaches_itself = cycles_are_returns;
}

pub returns : goal.returns
returns c = record {
  true_exactly_when_there_is_no_cycle =
      none_returns (holds c.args.self.now) (λ a p. failed _ (c.loop-a.invariant.1 a (omega arith)) (c.loop-a.invariant.0 a p));
  there_is_a_cycle_exactly_when_an_event_reaches_itself = cycles_are_returns;
}
