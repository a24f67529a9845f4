use Rattle.std.proofs.Common.{rules, drop, sym, refl, ap, ◌∙◌}
use Rattle.std.proofs.lemmas.Result.{err_from_is_err_and}
use Rattle.recording.specs.declared.reader.Reader.{Reader}
use Rattle.recording.specs.Lines.{lines}
use Rattle.recording.specs.Left.{left}
use Rattle.recording.specs.Meaning.{unopened}
use Rattle.recording.proofs.Mapped.{answered, refused}
use Rattle.recording.proofs.Reading.{denied, missing_at, headed, not_headed}
use Rattle.recording.proofs.reader.Reader.header.Goals as goal

pub returns-in_default : goal.returns-in_default
returns-in_default c =
    let none = c.in_default.ensures.the_first_line_of_what_is_left
    in let same = c.in_default.ensures.a_line_is_counted_or_nothing_changes
    in record {
      opens_what_is_left_or_tells_its_fault = missing_at c.args.self.now c.next_line.new.self unopened _ _ none same c.end_missing.ensures c.from.ensures refl;
      takes_one_line = ap (λ (r : Reader). lines (left r)) same ∙ none ∙ ap (drop 1) (sym none);
    }

pub returns-in_err-header : goal.returns-in_err-header
returns-in_err-header c =
    let next = c.in-Some.ensures.the_first_line_of_what_is_left
    in let counted = c.in-Some.ensures.a_line_is_counted_or_nothing_changes
    in let p = err_from_is_err_and c.from_residual.result c.from_residual.ensures.1
    in record {
      opens_what_is_left_or_tells_its_fault = rw (p.1, p.2) (not_headed c.args.self.now c.next_line.new.self c.in-Some.line.now next counted c.header_line.result _ c.header_line.ensures (denied _ _ (refused _ c.map_err.ensures.cases _ (λ d y q. search rules) _ c.in_err-header.was)));
      takes_one_line = ap (drop 1) (sym next);
    }

pub returns : goal.returns
returns c =
    let next = c.in-Some.ensures.the_first_line_of_what_is_left
    in let counted = c.in-Some.ensures.a_line_is_counted_or_nothing_changes
    in record {
      opens_what_is_left_or_tells_its_fault = headed c.args.self.now c.next_line.new.self c.in-Some.line.now next counted c.header_line.result _ c.header_line.ensures (answered _ c.map_err.ensures.cases _ c.in_ok-header.was);
      takes_one_line = ap (drop 1) (sym next);
    }
