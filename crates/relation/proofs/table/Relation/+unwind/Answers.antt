use Rattle.std.proofs.Common.{arith}
use Rattle.std.proofs.lemmas.Bool.{and_from, both_ways}
use Rattle.std.proofs.lemmas.Bool.Decides.{nat_tests}
use Rattle.relation.specs.Table.{holds}
use Rattle.cycles.proofs.Tests.{is_true, failed}
use Rattle.relation.proofs.Unwinding.{size_less, taken_keeps, goes_none, goes_more}
use Rattle.relation.proofs.table.Relation.+unwind.Goals as goal

pub returns-then-limit-eq0 : goal.returns-then-limit-eq0
returns-then-limit-eq0 t c = record {
  takes_it_or_steps_lead_on = goes_none (holds c.args.self.now) c.args.limit c.args.event (omega arith);
  adds_none = λ x h. h;
  keeps_what_returns = λ keeps. keeps;
}

pub loop-next-preserved : goal.loop-next-preserved
loop-next-preserved t c =
    let taken = c.unwind.ensures in (
      λ x h. c.loop-next.invariant.0 x (taken.adds_none x h),
      λ keeps. taken.keeps_what_returns (c.loop-next.invariant.1 keeps),
    )

pub loop-next-smaller : goal.loop-next-smaller
loop-next-smaller t c =
    size_less c.loop-next.left c.unwind.new.left c.unwind.ensures.adds_none c.in-Some.next c.in-Some.ensures.1
    (failed _ c.if-not-unwind.ensures.takes_it_or_steps_lead_on)

pub returns-then-not-unwind : goal.returns-then-not-unwind
returns-then-not-unwind t c =
    let taken = c.unwind.ensures in
    record {
      takes_it_or_steps_lead_on =
          goes_more _ c.args.limit c.args.event c.in-Some.next (omega arith) c.in-Some.ensures.0
          c.if-not-unwind.ensures.takes_it_or_steps_lead_on;
      adds_none = λ x h. c.loop-next.invariant.0 x (taken.adds_none x h);
      keeps_what_returns = λ keeps. taken.keeps_what_returns (c.loop-next.invariant.1 keeps);
    }

pub returns : goal.returns
returns t c =
    let gone = c.remove.ensures.takes_just_this_one in
    let none = c.in_default.ensures in
    record {
      takes_it_or_steps_lead_on = let at = gone c.args.event in grind (arith, nat_tests);
      adds_none = λ x h. let at = gone x in c.loop-next.invariant.0 x (grind arith);
      keeps_what_returns = λ keeps.
          taken_keeps (holds c.args.self.now) c.loop-next.left c.remove.new.self c.args.event gone
          (λ x h k. both_ways _ (none x) (and_from _ _ (is_true _ h) (is_true _ k)))
          (c.loop-next.invariant.1 keeps);
    }
