use Rattle.std.proofs.Common.{rules, arith, length-set}
use Rattle.std.proofs.lemmas.Result.{err_from_is_err_and}
use Rattle.recording.specs.Layout.{number_denial, numbers}
use Rattle.recording.proofs.Fields.{passes_at, fails_at, stored, all_read}
use Rattle.recording.proofs.line.Line.numbers.Goals as goal

pub loop-i-init : goal.loop-i-init
unfolding number_denial
loop-i-init c = search rules

pub loop-i-preserved : goal.loop-i-preserved
loop-i-preserved c = record {
  five = simp length-set (omega arith);
  fields_passed = passes_at _ _ _ _ _ c.loop-i-test.true c.loop-i.invariant.fields_passed c.in_ok-numbers.ensures.0;
  numbers_read = stored _ c.loop-i.numbers c.loop-i.i _ _ c.loop-i-test.true (omega arith) c.loop-i.invariant.numbers_read c.in_ok-numbers.ensures.1;
}

pub returns-in_err-numbers : goal.returns-in_err-numbers
returns-in_err-numbers c =
    let p = err_from_is_err_and c.from_residual.result c.from_residual.ensures.1
    in rw (p.1, p.2, c.in_err-numbers.ensures.1) (fails_at _ _ _ _ _ c.loop-i-test.true c.loop-i.invariant.fields_passed c.in_err-numbers.ensures.0)

pub returns : goal.returns
unfolding numbers
returns c = all_read _ c.loop-i.numbers _ _ _ c.loop-i.i c.loop-i-test.false (omega arith) c.loop-i.invariant.fields_passed c.loop-i.invariant.numbers_read
