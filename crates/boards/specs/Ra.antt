-- RA, release and acquire: every read synchronises with its source.
use Rattle.std.specs.Prelude.{ℕ, Bool}
use Rattle.execution.specs.Content.{Content, po, rf, mo, rb}
use Rattle.model.specs.Meaning.{Meaning}
use Rattle.boards.specs.Relations.{◌∪◌, at_one_location, steps, one_order}

-- happens-before: one or more steps of po or rf
abbrev pub ra_hb : Content → ℕ → ℕ → Bool
ra_hb g = steps g (po g ∪ rf g)

-- an access that happens before itself is paired with itself
abbrev pub ra_order : Content → ℕ → ℕ → Bool
ra_order g = at_one_location g (ra_hb g) ∪ mo g ∪ rb g

abbrev pub ra : Meaning
ra = one_order ra_order
