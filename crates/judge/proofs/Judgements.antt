-- From what the parts of a judge have found to a right judgement.
use Rattle.std.proofs.Common.{◌≡◌, ℕ, List, length, MatchOption, Some, None, Ok, Err, Option, Result, sym, ap, ◌∙◌, subst}
use Rattle.event.specs.declared.denial.Denial.{Denial}
use Rattle.event.specs.Denials.{or_else}
use Rattle.execution.specs.Content.{Content}
use Rattle.model.specs.Meaning.{Meaning, Serves}
use Rattle.verdict.specs.declared.verdict.Verdict.{Verdict}
use Rattle.verdict.specs.declared.verdict.Verdict.TheVariants.{Allowed as is_allowed}
use Rattle.verdict.specs.Answers.{RightUnless, laid}
use Rattle.verdict.specs.Completions.{Allowed}
use Rattle.verdict.specs.Places.{PlacedFirst}
use Rattle.verdict.specs.States.{State, as_open, as_closed}
use Rattle.verdict.specs.Denials.{unread, judge_denial}
use Rattle.verdict.specs.Judging.{Judged}
use Rattle.verdict.proofs.Outcomes.{judged_allowed, judged_denied}
use Rattle.sequence.specs.declared.sequence.Sequence.{Sequence}
use Rattle.sequence.specs.Sequences.{items}
use Rattle.judge.specs.Judges.{AllowedShown, OrderShown}

pub allowed_by : (m : Meaning) (g h : Content) → PlacedFirst m g h → (o : Option (Sequence ℕ 1280)) → MatchOption o (Serves m h → ⊥) (λ s. OrderShown m h (items s))
    → MatchOption o (Allowed m g → ⊥) (λ s. AllowedShown m g (items s))
allowed_by m g h first None never = λ _. never first.serves
allowed_by m g h first (Some s) order = record { full = h; first = first; order = order }

pub allowed_as_shown : (m : Meaning) (s : State) (before : List ℕ) → judge_denial s (length before) ≡ None
    → (shown after : List ℕ) → AllowedShown m s.content shown → after ≡ laid shown before → Judged m s before (Ok is_allowed) after
allowed_as_shown m s before passed shown after a wrote =
    subst (λ (xs : List ℕ). Judged m s before (Ok is_allowed) xs) (sym (wrote ∙ ap (λ (xs : List ℕ). laid xs before) a.order.all))
    (judged_allowed m s before passed a.full a.order.lists a.first a.order.listed.as_many a.order.listed.listed)

-- a closed graph with an unlinked read is denied
pub closed_denied : (m : Meaning) (g : Content) (before : List ℕ) (d : Denial) → unread g ≡ Some d → Judged m (as_closed g) before (Err d) before
closed_denied m g before d e = judged_denied m (as_closed g) before d (ap (λ (o : Option Denial). or_else o (judge_denial (as_open g) (length before))) e)

-- a closed graph with every read linked is judged as if it were open
pub judged_closed : (m : Meaning) (g : Content) (before : List ℕ) (result : Result Verdict Denial) (after : List ℕ) → unread g ≡ None
    → Judged m (as_open g) before result after → Judged m (as_closed g) before result after
judged_closed m g before result after linked j = record {
  answer = j.answer;
  right = subst (λ (o : Option Denial). RightUnless (or_else o (judge_denial (as_open g) (length before))) m g j.answer) (sym linked) j.right;
  returned = j.returned;
  sheet = j.sheet;
}
