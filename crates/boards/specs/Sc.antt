-- SC, sequential consistency: all accesses in one order.
use Rattle.std.specs.Prelude.{ℕ, Bool}
use Rattle.execution.specs.Content.{Content, po, rf, mo, rb}
use Rattle.model.specs.Meaning.{Meaning}
use Rattle.boards.specs.Relations.{◌∪◌, one_order}

abbrev pub sc_order : Content → ℕ → ℕ → Bool
sc_order g = po g ∪ rf g ∪ mo g ∪ rb g

abbrev pub sc : Meaning
sc = one_order sc_order
