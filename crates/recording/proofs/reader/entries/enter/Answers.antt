use Rattle.std.proofs.Common.{Some, sym, refl, ap, ◌∙◌, inl, inr}
use Rattle.std.proofs.lemmas.Result.{err_from_is_err_and}
use Rattle.graph.specs.View.{of_open}
use Rattle.recording.specs.OneLine.{stage}
use Rattle.recording.proofs.Steps.{unknown_line, out_of_frame, bad_field}
use Rattle.recording.proofs.Frames.{past_last, after_end, header_again, entry_after, enters}
use Rattle.recording.proofs.reader.entries.enter.Goals as goal

pub returns-in_err-line : goal.returns-in_err-line
returns-in_err-line c =
    let p = err_from_is_err_and c.from_residual.result c.from_residual.ensures.1
    in rw (p.1, p.2) (refl, λ h. unknown_line c.args.number (stage c.args.ended h (of_open c.args.graph.now)) c.args.line.now c.in_err-line.ensures.0 ∙ ap Some (sym c.in_err-line.ensures.1))

pub returns-then-number-gt-LINES : goal.returns-then-number-gt-LINES
returns-then-number-gt-LINES c = (
  refl,
  λ h. out_of_frame c.args.number (stage c.args.ended h (of_open c.args.graph.now)) c.args.line.now c.in_ok-line.line.kind c.in_ok-line.ensures.0
      (elim c.then-number-gt-LINES.either [ inl late ↦ past_last c.args.number (stage c.args.ended h (of_open c.args.graph.now)) c.in_ok-line.line.kind late | inr both ↦ after_end c.args.number c.args.ended h (of_open c.args.graph.now) c.in_ok-line.line.kind both.1 ]),
)

pub returns-in-Header : goal.returns-in-Header
returns-in-Header c = (
  refl,
  λ h. out_of_frame c.args.number (stage c.args.ended h (of_open c.args.graph.now)) c.args.line.now c.in_ok-line.line.kind c.in_ok-line.ensures.0
      (header_again c.args.number c.args.ended h (of_open c.args.graph.now) c.in_ok-line.line.kind c.if-ended.false c.in-Header.is),
)

pub returns-in_err-fields : goal.returns-in_err-fields
returns-in_err-fields c =
    let p = err_from_is_err_and c.from_residual-in_err-fields.result c.from_residual-in_err-fields.ensures.1
    in rw (p.1, p.2) (
      refl,
      λ h. bad_field c.args.number (stage c.args.ended h (of_open c.args.graph.now)) c.args.line.now c.in_ok-line.line.kind c.in_ok-line.line.rest.now c.in_ok-line.ensures.0 c.in_ok-line.ensures.1 c.in_err-fields.field-0.0
          (entry_after c.args.number c.args.ended h (of_open c.args.graph.now) c.in_ok-line.line.kind c.if-number-gt-LINES.false c.if-ended.false c.in_default.not-Header) c.in_err-fields.ensures,
    )

pub returns : goal.returns
returns c = enters c.args.number c.args.line.now c.in_ok-line.line.rest.now c.in_ok-line.line.kind c.in_ok-fields.field-0 c.if-number-gt-LINES.false c.in_ok-line.ensures.0 c.in_ok-line.ensures.1 c.in_ok-fields.ensures.0 c.in_ok-fields.ensures.1 c.args.ended (of_open c.args.graph.now) (of_open c.apply.new.graph) c.apply.result c.if-ended.false c.in_default.not-Header c.apply.ensures
