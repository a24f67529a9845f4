-- Text on a page.
use Rattle.std.specs.Prelude.{◌≡◌, ℕ, ◌+◌, List, ◌++◌, length, take, drop}

-- a page with a text written from a place on; before and past that it stays
unfoldable pub put : ℕ → List ℕ → List ℕ → List ℕ
put at text page = take at page ++ (text ++ drop (at + length text) page)

-- a text was written from a place on, and ends where it says
pub record Written (at : ℕ) (text before : List ℕ) (end : ℕ) (after : List ℕ) : Type 0 where
  pub ends : end ≡ at + length text
  pub page : after ≡ put at text before
