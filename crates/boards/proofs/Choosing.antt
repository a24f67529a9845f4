-- The choice of a model by its number.
use Rattle.std.proofs.Common.{◌≡◌, ℕ, IfOk, Some, None, Option, Result, sym, subst}
use Rattle.std.specs.Option.{ok_or}
use Rattle.event.specs.declared.denial.Denial.{Denial}
use Rattle.event.specs.declared.denial.Denial.TheVariants.{Range}
use Rattle.boards.specs.declared.board.Board.{Board}
use Rattle.boards.specs.Agreement.{Follows}
use Rattle.boards.specs.Boards.{numbered, meaning_of, ConsistentUnder, Chooses}
use Rattle.boards.specs.Stepping.{steps_are_one_or_more}
use Rattle.boards.specs.OfBoard.{board_follows}

follows : (o : Option Board) → IfOk (ok_or o (Range 1)) (λ b. Follows (meaning_of b) (ConsistentUnder b))
follows (Some b) = board_follows b
follows None = tt

pub chooses : (n : ℕ) (r : Result Board Denial) → r ≡ ok_or (numbered n) (Range 1) → Chooses n r
chooses n r e = record {
  the_model_of_that_number_or_range = e;
  serves_exactly_what_the_textbook_calls_consistent = subst (λ (q : Result Board Denial). IfOk q (λ b. Follows (meaning_of b) (ConsistentUnder b))) (sym e) (follows (numbered n));
  happens_before_is_one_or_more_steps = steps_are_one_or_more;
}
