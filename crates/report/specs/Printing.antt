-- A print call, from the page that it is handed to the page that it leaves.
use Rattle.std.specs.Prelude.{◌≡◌, ℕ, ◌≤◌, not, T, List, length, None, Ok, Err, Option, Result, nat_le}
use Rattle.event.specs.declared.denial.Denial.{Denial}
use Rattle.event.specs.declared.denial.Denial.TheVariants.{Wide, Page}
use Rattle.execution.specs.Content.{Content}
use Rattle.event.specs.Denials.{unless, or_else}
use Rattle.execution.specs.Sound.{Sound}
use Rattle.model.specs.Meaning.{Meaning, Rules}
use Rattle.verdict.specs.Denials.{unread, too_wide}
use Rattle.verdict.specs.States.{as_closed}
use Rattle.verdict.specs.Answers.{Answer, allowed, cyclic, no_placement, denied, RightUnless, laid}
use Rattle.verdict.specs.Dealings.{judge}
use Rattle.verdict.specs.Law.{Carries, is_denied}
use Rattle.report.specs.Reports.{report}

-- why a print of a closed graph on a page of n bytes is denied: by an unlinked read, by its width, by its page
abbrev pub print_denial : Content → ℕ → Option Denial
print_denial g n =
    or_else (unread g) (
    unless (not (too_wide g)) Wide (
    unless (nat_le 17934 n) Page
    None))

-- what the call returns: the report's length, or the denial
abbrev pub answered : Content → Answer → Result ℕ Denial
answered g (allowed lists orders) = Ok (length (report g (allowed lists orders)))
answered g (cyclic k xs) = Ok (length (report g (cyclic k xs)))
answered g no_placement = Ok (length (report g no_placement))
answered g (denied d) = Err d

-- the call reports the right answer at the page's start, and writes nothing else
pub record Printed (m : Meaning) (g : Content) (before : List ℕ) (result : Result ℕ Denial) (after : List ℕ) : Type 0 where
  pub answer : Answer
  pub right : RightUnless (print_denial g (length before)) m g answer
  pub returned : result ≡ answered g answer
  pub page : after ≡ laid (report g answer) before

-- and, unless it is denied, a judge with this very answer carries every run that makes this closed graph on: the law holds of it
pub record LawfullyPrinted (m : Meaning) (g : Content) (before : List ℕ) (result : Result ℕ Denial) (after : List ℕ) : Type 0 where
  pub printed : Printed m g before result after
  pub carries : (T (is_denied printed.answer) → ⊥) → Carries (as_closed g) (judge m 1280 printed.answer) (as_closed g)

-- every report of a right answer fits a page of 17,934 bytes
abbrev pub ReportsFit : Type 0
ReportsFit = (m : Meaning) → Rules m → (g : Content) → Sound g → (n : ℕ) (a : Answer) → RightUnless (print_denial g n) m g a → length (report g a) ≤ 17934

-- the result of a print, and the page that it leaves, are the only right ones
abbrev pub OneReport : Type 0
OneReport = (m : Meaning) → Rules m → (g : Content) → Sound g → (before : List ℕ) (q r : Result ℕ Denial) (x y : List ℕ)
    → Printed m g before q x → Printed m g before r y → (q ≡ r) × (x ≡ y)
