-- What is denied of an H line.
use Rattle.std.proofs.Common.{Ok, Err, ◌≡◌, ℕ, ◌*◌, ◌%◌, ◌^◌, ◌<◌, ◌≤◌, cond, eqb, Some, None, ap, ◌∙◌, mod-eq_of_lt, one-mul, arith, pow_mono}
use Rattle.std.proofs.lemmas.Bool.{lt-ltb, le-ltb, le-leb, lt-leb}
use Rattle.std.proofs.lemmas.Bool.Decides.{nat_tests}
use Rattle.event.specs.declared.denial.Denial.{Denial}
use Rattle.event.specs.declared.denial.Denial.TheVariants.{Range}
use Rattle.event.specs.Sizes.{size_denial}
use Rattle.std.specs.Option.{ok_or}
use Rattle.boards.specs.declared.board.Board.{Board}
use Rattle.boards.specs.Boards.{numbered}
use Rattle.recording.specs.Headings.{Heading, heading_denial, model_number}

-- the first set out of range, as it is shifted into place
pub set_bound : (t threads : ℕ) → t ≤ 16 → t ≡ threads → (1 * 2 ^ t) % 4294967296 ≡ 2 ^ threads
set_bound t threads h e =
    let p : 2 ^ t ≤ 2 ^ 16 = pow_mono h
    in let q : 1 * 2 ^ t < 4294967296 = omega arith
    in mod-eq_of_lt q ∙ one-mul (2 ^ t) ∙ ap (λ n. 2 ^ n) e

module _ (h : Heading) where
  pub bad_size : (d : Denial) → size_denial h.threads h.locations ≡ Some d → heading_denial h ≡ Some d
  unfolding heading_denial
  bad_size d e = rw e

  pub bad_strong : size_denial h.threads h.locations ≡ None → 2 ^ h.threads ≤ h.strong → heading_denial h ≡ Some (Range 3)
  unfolding heading_denial
  bad_strong e s = rw (e, le-ltb h.strong (2 ^ h.threads) s)

  pub bad_barrier : size_denial h.threads h.locations ≡ None → h.strong < 2 ^ h.threads → 1 < h.barrier → heading_denial h ≡ Some (Range 4)
  unfolding heading_denial
  bad_barrier e s b = rw (e, lt-ltb h.strong (2 ^ h.threads) s, lt-leb h.barrier 1 b)

  pub bad_model : size_denial h.threads h.locations ≡ None → h.strong < 2 ^ h.threads → h.barrier ≤ 1 → 4 < h.model → heading_denial h ≡ Some (Range 5)
  unfolding heading_denial
  bad_model e s b m = rw (e, lt-ltb h.strong (2 ^ h.threads) s, le-leb h.barrier 1 b, lt-leb h.model 4 m)

  pub good_heading : size_denial h.threads h.locations ≡ None → h.strong < 2 ^ h.threads → h.barrier ≤ 1 → h.model ≤ 4 → heading_denial h ≡ None
  unfolding heading_denial
  good_heading e s b m = rw (e, lt-ltb h.strong (2 ^ h.threads) s, le-leb h.barrier 1 b, le-leb h.model 4 m)

-- a number up to 1 as the flag that it is
pub flag : (n : ℕ) → n ≤ 1 → cond (eqb n 1) 1 0 ≡ n
flag n h = grind (arith, nat_tests)

-- the number that a model was chosen by, and one that chooses none
pub chosen_number : (n : ℕ) (b : Board) → Ok b ≡ ok_or (numbered n) (Range 1) → (n ≤ 4) × (model_number b ≡ n)
chosen_number n b e = (grind (arith, nat_tests), grind (arith, nat_tests))

pub no_model : (n : ℕ) (d : Denial) → Err d ≡ ok_or (numbered n) (Range 1) → 4 < n
no_model n d e = grind (arith, nat_tests)
