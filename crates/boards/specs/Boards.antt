-- The five models by name and number.
use Rattle.std.specs.Prelude.{◌≡◌, ℕ, cond, IfOk, Some, None, Option, Result, ◌==◌}
use Rattle.std.specs.Option.{ok_or}
use Rattle.event.specs.declared.denial.Denial.{Denial}
use Rattle.event.specs.declared.denial.Denial.TheVariants.{Range}
use Rattle.execution.specs.Content.{Content}
use Rattle.model.specs.Meaning.{Meaning}
use Rattle.boards.specs.declared.board.Board.{Board}
use Rattle.boards.specs.declared.board.Board.TheVariants.{Coh, C11, Ra, Tso, Sc}
use Rattle.boards.specs.Coh.{coh}
use Rattle.boards.specs.C11.{c11}
use Rattle.boards.specs.Ra.{ra}
use Rattle.boards.specs.Tso.{tso}
use Rattle.boards.specs.Sc.{sc}
use Rattle.boards.specs.Relations.{StepsAreOneOrMore}
use Rattle.boards.specs.Agreement.{Follows}
use Rattle.boards.specs.Textbook.{Coherent, C11Consistent, RaConsistent, TsoConsistent, ScConsistent}

-- the model of each number from 0 to 4
abbrev pub numbered : ℕ → Option Board
numbered n =
    cond (n == 0) (Some Coh) (
    cond (n == 1) (Some C11) (
    cond (n == 2) (Some Ra) (
    cond (n == 3) (Some Tso) (
    cond (n == 4) (Some Sc) None))))

-- what each model means
abbrev pub meaning_of : Board → Meaning
meaning_of Coh = coh
meaning_of C11 = c11
meaning_of Ra = ra
meaning_of Tso = tso
meaning_of Sc = sc

-- when a graph with a modification order is consistent under each model
abbrev pub ConsistentUnder : Board → Content → (ℕ → ℕ → Type 0) → Type 0
ConsistentUnder Coh = Coherent
ConsistentUnder C11 = C11Consistent
ConsistentUnder Ra = RaConsistent
ConsistentUnder Tso = TsoConsistent
ConsistentUnder Sc = ScConsistent

-- the choice by a number: its model, which serves just what the textbook calls consistent, or a denial
pub record Chooses (n : ℕ) (r : Result Board Denial) : Type 0 where
  pub the_model_of_that_number_or_range : r ≡ ok_or (numbered n) (Range 1)
  pub serves_exactly_what_the_textbook_calls_consistent : IfOk r (λ b. Follows (meaning_of b) (ConsistentUnder b))
  pub happens_before_is_one_or_more_steps : StepsAreOneOrMore
