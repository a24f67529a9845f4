-- Part of the way to a full modification order: the open writes from a number on are placed, lower ones left out.
use Rattle.std.specs.Prelude.{◌≡◌, ℕ, ◌<◌, ◌≤◌, Bool, ◌||◌, T, nat_le}
use Rattle.event.specs.Labels.{is_write}
use Rattle.execution.specs.Lists.{holds}
use Rattle.execution.specs.Content.{Content, label_of, is_open, mo}
use Rattle.execution.specs.Sound.{Sound}
use Rattle.model.specs.Meaning.{Meaning, Serves}
use Rattle.verdict.specs.Places.{place_of}

-- placed in g, or from n on
abbrev pub due : ℕ → Content → ℕ → Bool
due n g w = holds g.placed w || nat_le n w

-- h is g with every write from n on placed, and no lower one that g has not, in an order that keeps that of g's placements
pub record Filling (n : ℕ) (g h : Content) : Type 0 where
  pub threads : h.threads ≡ g.threads
  pub locations : h.locations ≡ g.locations
  pub events : h.events ≡ g.events
  pub sources : h.sources ≡ g.sources
  pub sound : Sound h
  pub full : (w : ℕ) → T (is_write (label_of h w)) → T (due n g w) → T (holds h.placed w)
  pub only : (w : ℕ) → T (holds h.placed w) → T (due n g w)
  pub extends : (a b : ℕ) → T (mo g a b) → T (mo h a b)

-- some filling from n on serves
abbrev pub Fillable : Meaning → ℕ → Content → Type 0
Fillable m n g = (h : Content) × Filling n g h × Serves m h

-- of the fillings that serve, one with the smallest first place, then second, and so on
pub record FilledFirst (m : Meaning) (n : ℕ) (g h : Content) : Type 0 where
  pub fills : Filling n g h
  pub serves : Serves m h
  pub first : (f : Content) → Filling n g f → Serves m f → (w : ℕ) → n ≤ w → T (is_open g w)
      → ((u : ℕ) → n ≤ u → u < w → T (is_open g u) → place_of g h u ≡ place_of g f u) → place_of g h w ≤ place_of g f w
