use Rattle.std.proofs.Common.{◌≡◌, ◌<◌, length, get_or, refl, ◌∙◌, arith, rules}
use Rattle.std.proofs.lemmas.Result.{err_from_is_err_and}
use Rattle.recording.proofs.Letters.{kind_none_by_length, kind_none_by_end, kind_by_letter, part_is_rest, rest_length, rest_at, known_letter, unknown_letter}
use Rattle.recording.proofs.line.Line.of.Goals as goal
use Rattle.recording.proofs.line.Line.of.Goals.{then-rest-ne33-via-then-rest-ne33, then-rest-ne33-via-else-rest-ne33+then-rest-ne10}

pub returns-in_default : goal.returns-in_default
returns-in_default c =
    let short : length c.args.line.now < 1 = search rules
    in (kind_none_by_length c.args.line.now (λ e. omega arith), refl)

pub returns-then-rest-ne33 : goal.returns-then-rest-ne33
returns-then-rest-ne33 c =
    let long = rest_length c.args.line.now
    in let last = rest_at c.args.line.now 32
    in elim c.then-rest-ne33.branch [
      | then-rest-ne33-via-then-rest-ne33 w ↦ (kind_none_by_length c.args.line.now (λ e. omega arith), refl)
      | then-rest-ne33-via-else-rest-ne33+then-rest-ne10 w ↦ (kind_none_by_end c.args.line.now (λ e. omega arith), refl)
    ]

pub returns-in_err-kind : goal.returns-in_err-kind
returns-in_err-kind c =
    let line = c.args.line.now
    in let long = rest_length line
    in let last = rest_at line 32
    in let one : length line ≡ 34 = omega arith
    in let two : get_or line 33 0 ≡ 10 = omega arith
    in let p = err_from_is_err_and c.from_residual.result c.from_residual.ensures.1
    in let q = unknown_letter _ _ c.in_err-kind.ensures
    in rw (p.1, p.2) (kind_by_letter line one two ∙ q.0, q.1)

pub returns : goal.returns
returns c =
    let line = c.args.line.now
    in let long = rest_length line
    in let last = rest_at line 32
    in let one : length line ≡ 34 = omega arith
    in let two : get_or line 33 0 ≡ 10 = omega arith
    in (kind_by_letter line one two ∙ known_letter _ _ c.in_ok-kind.ensures, part_is_rest line)
