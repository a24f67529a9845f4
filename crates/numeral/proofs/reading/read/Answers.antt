use Rattle.numeral.proofs.Laws.{holds_from_numeral, none_from_numeral, numeral_from_holds, numeral_from_none}
use Rattle.numeral.proofs.reading.read.Goals as goal
use Rattle.numeral.specs.Numerals.{figure, numeral}
use Rattle.std.proofs.Common.{◌≡◌, sym, ap, ◌∙◌}

answer : (c : goal.After-figures) → c.figures.result ≡ numeral c.args.field.now
unfolding numeral
answer c = c.figures.ensures ∙ ap figure c.trimmed.ensures

pub returns : goal.returns
returns c =
    let field = c.args.field.now in
    let is = answer c in
    record {
      the_answer_is_the_numeral_of_the_field = is;
      some_number_exactly_when_the_field_is_that_number_justified =
          λ n. (λ e. holds_from_numeral field n (sym is ∙ e), λ h. is ∙ numeral_from_holds field n h);
      none_exactly_when_the_field_is_no_number_justified =
          (λ e. none_from_numeral field (sym is ∙ e), λ none. is ∙ numeral_from_none field none);
    }
