-- The places of the open writes, and the full modification order to show.
use Rattle.std.specs.Prelude.{◌≡◌, ℕ, ◌<◌, ◌≤◌, Bool, ◌&&◌, ◌||◌, T, length, nat_lt}
use Rattle.execution.specs.Lists.{holds}
use Rattle.execution.specs.Content.{Content, is_open, mo}
use Rattle.model.specs.Meaning.{Meaning, Serves}
use Rattle.verdict.specs.Numbers.{count}
use Rattle.verdict.specs.Completions.{Completion}

-- c is there when w is placed: it was placed in g, or its turn comes before that of w
abbrev pub there_before : Content → ℕ → ℕ → Bool
there_before g w c = holds g.placed c || nat_lt c w

-- the place of w in h: how many stand before it in its modification order while later open writes are absent
abbrev pub place_of : Content → Content → ℕ → ℕ
place_of g h w = count (length g.events) (λ c. mo h c w && there_before g w c)

-- of the full modification orders that serve, one with the smallest first place, then second, and so on
pub record PlacedFirst (m : Meaning) (g h : Content) : Type 0 where
  pub completes : Completion g h
  pub serves : Serves m h
  pub first : (f : Content) → Completion g f → Serves m f → (w : ℕ) → T (is_open g w)
      → ((u : ℕ) → u < w → T (is_open g u) → place_of g h u ≡ place_of g f u) → place_of g h w ≤ place_of g f w
