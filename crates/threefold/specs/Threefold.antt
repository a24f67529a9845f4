-- A model of three orders.
use Rattle.std.specs.Prelude.{ℕ, Bool, ◌&&◌, ◌||◌, ◌==◌}
use Rattle.execution.specs.Content.{Content, same_location, po, rf, mo, rb}
use Rattle.model.specs.Meaning.{Meaning}

-- coherence: program order between accesses of one location, and rf, mo and rb
abbrev pub coherence : Content → ℕ → ℕ → Bool
coherence g a b = (po g a b && same_location g a b) || (rf g a b || (mo g a b || rb g a b))

-- coherence, program order with reads-from, and program order with modification order
abbrev pub threefold : Meaning
threefold = record { orders = 3; pairs = λ g k a b. (k == 0 && coherence g a b) || ((k == 1 && (po g a b || rf g a b)) || (k == 2 && (po g a b || mo g a b))) }
