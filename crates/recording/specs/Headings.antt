-- What the H line says.
use Rattle.std.specs.Prelude.{ℕ, ◌^◌, cond, List, None, Option, nat_le, nat_lt, slice_index}
use Rattle.event.specs.declared.denial.Denial.{Denial}
use Rattle.event.specs.declared.denial.Denial.TheVariants.{Range}
use Rattle.event.specs.Denials.{unless, or_else}
use Rattle.event.specs.Sizes.{size_denial}
use Rattle.boards.specs.declared.board.Board.{Board}
use Rattle.boards.specs.declared.board.Board.TheVariants.{Coh, C11, Ra, Tso, Sc}
use Rattle.recording.specs.declared.header.Header.{Header}

-- the five numbers of the H line
pub record Heading : Type 0 where
  pub threads : ℕ
  pub locations : ℕ
  -- bit t - 1 for thread t
  pub strong : ℕ
  pub barrier : ℕ
  pub model : ℕ

-- which field has which
abbrev pub heading : List ℕ → Heading
heading f = record { threads = slice_index f 0; locations = slice_index f 1; strong = slice_index f 2; barrier = slice_index f 3; model = slice_index f 4 }

-- why a heading is denied: its first number out of range
unfoldable pub heading_denial : Heading → Option Denial
heading_denial h =
    or_else (size_denial h.threads h.locations) (
    unless (nat_lt h.strong (2 ^ h.threads)) (Range 3) (
    unless (nat_le h.barrier 1) (Range 4) (
    unless (nat_le h.model 4) (Range 5)
    None)))

-- the number of a model
abbrev pub model_number : Board → ℕ
model_number Coh = 0
model_number C11 = 1
model_number Ra = 2
model_number Tso = 3
model_number Sc = 4

-- a header as the heading that it was read from
abbrev pub heading_of : Header → Heading
heading_of h = record { threads = h.size.threads; locations = h.size.locations; strong = h.strong; barrier = cond h.barrier 1 0; model = model_number h.model }
