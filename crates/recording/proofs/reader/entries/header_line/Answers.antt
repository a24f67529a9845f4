use Rattle.std.proofs.Common.{Some, sym, ap, ◌∙◌}
use Rattle.std.proofs.lemmas.Result.{err_from_is_err_and}
use Rattle.recording.specs.Meaning.{unopened}
use Rattle.recording.proofs.Steps.{unknown_line, out_of_frame, bad_field}
use Rattle.recording.proofs.Frames.{past_last, header_missing, header_first, heads}
use Rattle.recording.proofs.reader.entries.header_line.Goals as goal

pub returns-in_err-line : goal.returns-in_err-line
returns-in_err-line c =
    let p = err_from_is_err_and c.from_residual.result c.from_residual.ensures.1
    in rw (p.1, p.2) (unknown_line c.args.number unopened c.args.line.now c.in_err-line.ensures.0 ∙ ap Some (sym c.in_err-line.ensures.1))

pub returns-then-number-gt-LINES : goal.returns-then-number-gt-LINES
returns-then-number-gt-LINES c =
    out_of_frame c.args.number unopened c.args.line.now c.in_ok-line.line.kind c.in_ok-line.ensures.0
    (past_last c.args.number unopened c.in_ok-line.line.kind c.if-number-gt-LINES.true)

pub returns-in_default : goal.returns-in_default
returns-in_default c =
    out_of_frame c.args.number unopened c.args.line.now c.in_ok-line.line.kind c.in_ok-line.ensures.0
    (header_missing c.args.number c.in_ok-line.line.kind c.in_default.not-Header)

pub returns-in_err-fields : goal.returns-in_err-fields
returns-in_err-fields c =
    let p = err_from_is_err_and c.from_residual-in_err-fields.result c.from_residual-in_err-fields.ensures.1
    in rw (p.1, p.2) (bad_field c.args.number unopened c.args.line.now c.in_ok-line.line.kind c.in_ok-line.line.rest.now c.in_ok-line.ensures.0 c.in_ok-line.ensures.1 c.in_err-fields.field-0.0
    (header_first c.args.number c.in_ok-line.line.kind c.if-number-gt-LINES.false c.in-Header.is) c.in_err-fields.ensures)

pub returns : goal.returns
returns c = heads c.args.number c.args.line.now c.in_ok-line.line.rest.now c.in_ok-line.line.kind c.in_ok-fields.field-0 c.if-number-gt-LINES.false c.in_ok-line.ensures.0 c.in_ok-line.ensures.1 c.in_ok-fields.ensures.0 c.in_ok-fields.ensures.1 c.of-2.result c.in-Header.is c.of-2.ensures
