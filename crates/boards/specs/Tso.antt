-- TSO, total store order: a write may be delayed past later reads of its thread.
use Rattle.std.specs.Prelude.{ℕ, Bool, not, ◌&&◌, ◌==◌}
use Rattle.event.specs.declared.event.Label.{Label}
use Rattle.event.specs.Labels.{is_read, is_write}
use Rattle.execution.specs.Content.{Content, thread_of, label_of, po, rf, mo, rb}
use Rattle.model.specs.Meaning.{Meaning}
use Rattle.boards.specs.Relations.{◌∪◌, two_orders}
use Rattle.boards.specs.Coh.{coh_order}

-- a write that is no update
abbrev pub plain_write : Label → Bool
plain_write l = is_write l && not (is_read l)

-- a read that is no update
abbrev pub plain_read : Label → Bool
plain_read l = is_read l && not (is_write l)

-- preserved program order: all but the pairs from a plain write to a plain read
abbrev pub ppo : Content → ℕ → ℕ → Bool
ppo g a b = po g a b && not (plain_write (label_of g a) && plain_read (label_of g b))

-- external reads-from: between different threads
abbrev pub rfe : Content → ℕ → ℕ → Bool
rfe g a b = rf g a b && not (thread_of g a == thread_of g b)

-- the order of memory
abbrev pub tso_order : Content → ℕ → ℕ → Bool
tso_order g = ppo g ∪ rfe g ∪ mo g ∪ rb g

abbrev pub tso : Meaning
tso = two_orders coh_order tso_order
