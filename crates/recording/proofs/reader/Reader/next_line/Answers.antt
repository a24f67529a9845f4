use Rattle.std.proofs.Common.{refl, eqb, rules}
use Rattle.std.proofs.lemmas.Fn.{always_returns_same}
use Rattle.recording.proofs.Lines.{no_line, next_line}
use Rattle.recording.proofs.reader.Reader.next_line.Goals as goal

pub returns-in_err-line : goal.returns-in_err-line
returns-in_err-line c = rw c.from_residual.ensures (record { the_first_line_of_what_is_left = no_line c.args.self.now.bytes.now c.args.self.now.place _ c.split_inclusive.ensures.rest c.in_err-line.ensures.steps.0; a_line_is_counted_or_nothing_changes = refl })

pub returns : goal.returns
returns c =
    let steps = c.in_ok-line.ensures.steps
    in let at = steps.1.2 (λ b. eqb b 10) (always_returns_same _ _ _ (λ a r q call. search rules))
    in record { the_first_line_of_what_is_left = next_line c.args.self.now.bytes.now c.args.self.now.place _ c.split_inclusive.ensures.rest _ _ _ steps.0 steps.2 steps.1.1 at.1; a_line_is_counted_or_nothing_changes = refl }
