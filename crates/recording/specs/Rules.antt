-- Rules that are tried in turn: the first that is broken denies.
use Rattle.std.specs.Prelude.{ℕ, Bool, List, [], ◌∷◌, None, Option}
use Rattle.event.specs.declared.denial.Denial.{Denial}
use Rattle.event.specs.Denials.{unless}

-- the positions of a line's five fields
abbrev pub positions : List ℕ
positions = 1 ∷ 2 ∷ 3 ∷ 4 ∷ 5 ∷ []

-- the denial at the first of some positions that fails a test
abbrev pub first_of : List ℕ → (ℕ → Bool) → (ℕ → Denial) → Option Denial
first_of [] passes d = None
first_of (p ∷ ps) passes d = unless (passes p) (d p) (first_of ps passes d)

-- the denial at the first of the five positions that fails a test
abbrev pub at_first : (ℕ → Bool) → (ℕ → Denial) → Option Denial
at_first = first_of positions
