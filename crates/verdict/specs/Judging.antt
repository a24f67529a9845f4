-- A judge call, from the sheet that it is handed to the sheet that it leaves.
use Rattle.std.specs.Prelude.{◌≡◌, ℕ, ◌≤◌, List, length, Result}
use Rattle.event.specs.declared.denial.Denial.{Denial}
use Rattle.execution.specs.Sound.{Sound}
use Rattle.model.specs.Meaning.{Meaning, Rules}
use Rattle.verdict.specs.declared.verdict.Verdict.{Verdict}
use Rattle.verdict.specs.States.{State}
use Rattle.verdict.specs.Answers.{Answer, RightAnswer, told, written, laid}

-- the call returns the right answer and writes what that shows at the sheet's start, and nothing else
pub record Judged (m : Meaning) (s : State) (before : List ℕ) (result : Result Verdict Denial) (after : List ℕ) : Type 0 where
  pub answer : Answer
  pub right : RightAnswer m s (length before) answer
  pub returned : result ≡ told answer
  pub sheet : after ≡ laid (written answer) before

-- what an answer writes always fits its sheet
abbrev pub AnswersFit : Type 0
AnswersFit = (m : Meaning) → Rules m → (s : State) → Sound s.content → (n : ℕ) (a : Answer) → RightAnswer m s n a → length (written a) ≤ n

-- there is one right answer at most
abbrev pub OneAnswer : Type 0
OneAnswer = (m : Meaning) → Rules m → (s : State) → Sound s.content → (n : ℕ) (a b : Answer) → RightAnswer m s n a → RightAnswer m s n b → a ≡ b

-- and so the result of a call, and the sheet that it leaves, are the only ones
abbrev pub OneVerdict : Type 0
OneVerdict = (m : Meaning) → Rules m → (s : State) → Sound s.content → (before : List ℕ) (q r : Result Verdict Denial) (x y : List ℕ)
    → Judged m s before q x → Judged m s before r y → (q ≡ r) × (x ≡ y)
