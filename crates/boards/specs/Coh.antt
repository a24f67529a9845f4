-- COH, coherence: each location by itself is sequentially consistent.
use Rattle.std.specs.Prelude.{ℕ, Bool}
use Rattle.execution.specs.Content.{Content, po, rf, mo, rb}
use Rattle.model.specs.Meaning.{Meaning}
use Rattle.boards.specs.Relations.{◌∪◌, at_one_location, one_order}

abbrev pub coh_order : Content → ℕ → ℕ → Bool
coh_order g = at_one_location g (po g) ∪ rf g ∪ mo g ∪ rb g

abbrev pub coh : Meaning
coh = one_order coh_order
