-- The pile of layers that a recording is judged by.
use Rattle.std.specs.Prelude.{◌≡◌, ℕ, Bool, cond}
use Rattle.execution.specs.Content.{Content}
use Rattle.model.specs.Meaning.{Meaning}
use Rattle.model.specs.Layers.{barrier, strong}

-- the strong layer of a set of threads, over the barrier layer where that is asked for, over a model
abbrev pub piled : ℕ → Bool → Meaning → Meaning
piled threads fenced m = strong threads (cond fenced (barrier m) m)

-- what the strong layer of a pile holds: a model, under the barrier layer where that is asked for
abbrev pub below_strong : Bool → Meaning → Meaning
below_strong fenced m = cond fenced (barrier m) m

-- as many orders, each with just the pairs of the other's
pub record Alike (m n : Meaning) : Type 0 where
  pub as_many : m.orders ≡ n.orders
  pub same : (g : Content) (k a b : ℕ) → m.pairs g k a b ≡ n.pairs g k a b
