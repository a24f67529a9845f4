-- When a model follows the textbook.
use Rattle.std.specs.Prelude.{ℕ, T, is_some}
use Rattle.event.specs.Labels.{is_read, is_write}
use Rattle.execution.specs.Lists.{holds}
use Rattle.execution.specs.Content.{Content, label_of, source_of, mo}
use Rattle.execution.specs.Sound.{Sound}
use Rattle.model.specs.Meaning.{Meaning, Serves}

-- every write is placed and every read is linked
pub record Full (g : Content) : Type 0 where
  pub all_placed : (w : ℕ) → T (is_write (label_of g w)) → T (holds g.placed w)
  pub all_linked : (r : ℕ) → T (is_read (label_of g r)) → T (is_some (source_of g r))

-- a full graph with its modification order is served exactly when it is consistent
abbrev pub Follows : Meaning → (Content → (ℕ → ℕ → Type 0) → Type 0) → Type 0
Follows m consistent = (g : Content) → Sound g → Full g → (Serves m g → consistent g (λ a b. T (mo g a b))) × (consistent g (λ a b. T (mo g a b)) → Serves m g)
