-- What a file is told as on the page.
use Rattle.std.specs.Prelude.{◌≡◌, ℕ, T, List, length, Some, None, Ok, Option, Result, ◌==◌}
use Rattle.event.specs.declared.denial.Denial.{Denial}
use Rattle.event.specs.Denials.{denial_number, denial_position}
use Rattle.execution.specs.Content.{Content}
use Rattle.recording.specs.declared.fault.Fault.{Fault}
use Rattle.recording.specs.Headings.{Heading}
use Rattle.recording.specs.Meaning.{Stage, unopened, taking, ended, Outcome}
use Rattle.model.specs.Meaning.{Meaning}
use Rattle.boards.specs.declared.board.Board.{Board}
use Rattle.boards.specs.Boards.{numbered, meaning_of}
use Rattle.verdict.specs.States.{as_closed}
use Rattle.verdict.specs.Answers.{Answer, allowed, cyclic, no_placement, denied, RightUnless, laid}
use Rattle.verdict.specs.Dealings.{judge}
use Rattle.verdict.specs.Law.{Carries, is_denied}
use Rattle.report.specs.Pages.{report_line}
use Rattle.piles.specs.Piles.{piled}
use Rattle.report.specs.Reports.{report}
use Rattle.report.specs.Printing.{print_denial}

-- a denial, the line of the file that it is on, and its place
abbrev pub denial_text : Denial → ℕ → ℕ → List ℕ
denial_text d line place = report_line 68 (denial_number d) line place

-- an answer's report, or its denial: no line of the file is at fault then, and the place is the denial's own position
abbrev pub told_as : Content → Answer → List ℕ
told_as g (allowed lists orders) = report g (allowed lists orders)
told_as g (cyclic k xs) = report g (cyclic k xs)
told_as g no_placement = report g no_placement
told_as g (denied d) = denial_text d 0 (denial_position d)

-- the model that an H line asks for: the strong layer over the barrier layer, where that is asked for, over its board's model
abbrev pub pile_of : Heading → Board → Meaning
pile_of h b = piled h.strong (h.barrier == 1) (meaning_of b)

-- a whole file is told as the right answer of a print by its pile, on a page that is long enough;
-- and, unless that is a denial, a judge with this very answer carries every run that makes this closed graph on: the law holds of it
pub record ToldOf (h : Heading) (g : Content) (text : List ℕ) : Type 0 where
  pub board : Board
  pub chosen : numbered h.model ≡ Some board
  pub answer : Answer
  pub right : RightUnless (print_denial g 17934) (pile_of h board) g answer
  pub carries : (T (is_denied answer) → ⊥) → Carries (as_closed g) (judge (pile_of h board) 1280 answer) (as_closed g)
  pub is : text ≡ told_as g answer

-- a file at fault is told as the denial on its line, at its column
abbrev pub ToldBy : Option Fault → Stage → List ℕ → Type 0
ToldBy (Some f) s text = text ≡ denial_text f.denial f.line f.column
ToldBy None unopened text = ⊥
ToldBy None (taking h g) text = ⊥
ToldBy None (ended h g) text = ToldOf h g text

-- the text that what a file means is told as
abbrev pub Told : Outcome → List ℕ → Type 0
Told o text = ToldBy o.fault o.stage text

-- a text that serves stands at the page's start, its length is answered, and past it the page stays
pub record Stands (Serves : List ℕ → Type 0) (before : List ℕ) (result : Result ℕ Denial) (after : List ℕ) : Type 0 where
  pub text : List ℕ
  pub serves : Serves text
  pub returned : result ≡ Ok (length text)
  pub page : after ≡ laid text before
