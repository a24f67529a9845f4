-- Layers: a model with more pairs in every order.
use Rattle.std.specs.Prelude.{ℕ, ◌-◌, Bool, false, ◌&&◌, ◌||◌, ◌==◌, nat_lt}
use Rattle.event.specs.declared.event.Label.{Label}
use Rattle.event.specs.declared.event.Label.TheVariants.{Read, Write, Update, Fence}
use Rattle.event.specs.Labels.{mode_number}
use Rattle.execution.specs.Content.{Content, thread_of, label_of, po}
use Rattle.event_set.specs.Sets.{bit}
use Rattle.model.specs.Meaning.{Meaning, Over}

-- every order of the model below, with the pairs of r besides
abbrev pub layer : (Content → ℕ → ℕ → Bool) → Meaning → Meaning
layer r m = record { orders = m.orders; pairs = λ g k a b. m.pairs g k a b || (nat_lt k m.orders && r g a b) }

-- a fence of mode 5
abbrev pub strong_fence : Label → Bool
strong_fence (Read l v m) = false
strong_fence (Write l v m) = false
strong_fence (Update l b a m) = false
strong_fence (Fence m) = mode_number m == 5

-- program order to or from a fence of mode 5
abbrev pub fenced : Content → ℕ → ℕ → Bool
fenced g a b = po g a b && (strong_fence (label_of g a) || strong_fence (label_of g b))

-- the set has thread t as its digit t - 1; it never has thread 0, that of the initial writes
abbrev pub has_thread : ℕ → ℕ → Bool
has_thread threads t = nat_lt 0 t && bit threads (t - 1)

-- program order inside each thread of the set
abbrev pub within_threads : ℕ → Content → ℕ → ℕ → Bool
within_threads threads g a b = po g a b && (thread_of g a == thread_of g b && has_thread threads (thread_of g a))

-- the barrier layer
abbrev pub barrier : Meaning → Meaning
barrier = layer fenced

-- the strong layer of a set of threads
abbrev pub strong : ℕ → Meaning → Meaning
strong threads = layer (within_threads threads)

-- layers pile to any height: a model is over itself, and what is over a pile is over all of it
pub record Piles : Type 0 where
  pub on_itself : (m : Meaning) → Over m m
  pub on_a_pile : (u v w : Meaning) → Over u v → Over v w → Over u w
