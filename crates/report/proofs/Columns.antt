-- Numbers that fit the columns of a line.
use Rattle.std.specs.Prelude.{ℕ, ◌≤◌, List, length}
use Rattle.std.specs.List.{AllByRecursion}

-- a number of at most four columns
abbrev pub Fits : ℕ → Type 0
Fits n = n ≤ 9999

-- numbers of at most four columns, and few enough to be counted in four
pub record Listable (xs : List ℕ) : Type 0 where
  pub few : length xs ≤ 9999
  pub each : AllByRecursion Fits xs
