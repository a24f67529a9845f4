use Rattle.std.proofs.Common.{◌≡◌, ℕ, ◌+◌, ◌-◌, List, ◌++◌, length, get_or, sym, ap, ◌∙◌, subst, arith}
use Rattle.std.proofs.lemmas.List.{append_assoc}
use Rattle.std.proofs.lemmas.Grind.{common_steps}
use Rattle.titled.specs.Titles.{TitleBehind}
use Rattle.titled.proofs.titled.RecordingsIterator.next.Goals as goal

pub returns-clause-steps : goal.returns-clause-steps
returns-clause-steps c =
    let file = c.args.self.now.rest.now in
    let title = c.split_at-2.result.0.now in
    let recording = c.split_at-2.result.1.now in
    let rest = c.split_at.result.1.now in
    let long : length title + length recording ≡ c.next_title.result = omega arith in
    record {
      whole = c.split_at.ensures.by_index.0 ∙ ap (λ (xs : List ℕ). xs ++ rest) c.split_at-2.ensures.by_index.0 ∙ append_assoc title recording rest;
      not_none = grind (arith, common_steps);
      ends_in_a_newline = λ l. grind (arith, common_steps);
      one_line = λ k l n. c.line_end.ensures.none_before k (omega arith) (grind (arith, common_steps));
      up_to_a_title = λ l. subst (λ (n : ℕ). TitleBehind file (n - 1)) (sym long) (c.next_title.ensures.behind_a_newline (omega arith));
      no_title_inside = λ k l. c.next_title.ensures.none_before k (omega arith);
    }
