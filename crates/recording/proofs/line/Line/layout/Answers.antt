use Rattle.std.proofs.Common.{rules, ap, sym, ◌∙◌}
use Rattle.std.proofs.lemmas.Result.{err_from_is_err_and}
use Rattle.event.specs.Denials.{refusal}
use Rattle.recording.specs.Layout.{blank_denial}
use Rattle.recording.proofs.Fields.{passes_at, fails_at, passed, denied_at}
use Rattle.recording.proofs.line.Line.layout.Goals as goal

pub loop-position-preserved : goal.loop-position-preserved
loop-position-preserved c = passes_at _ _ _ _ _ c.loop-position-test.true c.loop-position.invariant (passed _ _ (sym c.agrees.ensures ∙ ap refusal c.in_ok-agrees.was))

pub returns-in_err-agrees : goal.returns-in_err-agrees
returns-in_err-agrees c =
    let p = err_from_is_err_and c.from_residual.result c.from_residual.ensures.1
    in let q = denied_at _ _ _ (sym c.agrees.ensures ∙ ap refusal c.in_err-agrees.was)
    in rw (p.1, p.2, q.1) (sym (fails_at _ _ _ _ _ c.loop-position-test.true c.loop-position.invariant q.0))

pub loop-position-init : goal.loop-position-init
unfolding blank_denial
loop-position-init c = search rules
