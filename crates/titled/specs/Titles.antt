-- A file of recordings behind title lines, cut apart.
use Rattle.std.specs.Prelude.{◌≡◌, ℕ, ◌+◌, ◌-◌, ◌<◌, List, ◌++◌, length, slice_index}

-- behind the newline at k a title line begins, by a '#'
abbrev pub TitleBehind : List ℕ → ℕ → Type 0
TitleBehind xs k = (slice_index xs k ≡ 10) × (slice_index xs (k + 1) ≡ 35)

-- a file's first line is a title, and behind it stands a recording, up to the next title line
pub record Cut (file title recording rest : List ℕ) : Type 0 where
  pub whole : file ≡ title ++ (recording ++ rest)
  pub not_none : 0 < length title
  pub ends_in_a_newline : 0 < length recording → slice_index title (length title - 1) ≡ 10
  pub one_line : (k : ℕ) → k + 1 < length title → slice_index title k ≡ 10 → ⊥
  pub up_to_a_title : 0 < length rest → TitleBehind file (length title + length recording - 1)
  pub no_title_inside : (k : ℕ) → k + 1 < length title + length recording → TitleBehind file k → ⊥
