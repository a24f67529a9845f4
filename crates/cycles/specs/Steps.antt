-- Steps of a relation.
use Rattle.std.specs.Prelude.{ℕ, zero, suc, ◌<◌, Bool, T, Decides}

-- one or more steps of r
pub data Plus (r : ℕ → ℕ → Bool) : ℕ → ℕ → Type 0 where
  last : {a b : ℕ} → T (r a b) → Plus r a b
  step : {a m b : ℕ} → T (r a m) → Plus r m b → Plus r a b

-- s has just the pairs that one or more steps of r join
abbrev pub Closure : (ℕ → ℕ → Bool) → (ℕ → ℕ → Bool) → Type 0
Closure r s = (a b : ℕ) → Decides (s a b) (Plus r a b)

-- each event above a is paired with all that it leads to
abbrev pub ClosedAbove : (ℕ → ℕ → Bool) → ℕ → Type 0
ClosedAbove r a = (m x y : ℕ) → a < m → T (r m x) → T (r x y) → T (r m y)

-- every pair of r is one of s
abbrev pub Within : (ℕ → ℕ → Bool) → (ℕ → ℕ → Bool) → Type 0
Within r s = (a b : ℕ) → T (r a b) → T (s a b)

-- a step of r and then one of s
abbrev pub Then : (ℕ → ℕ → Bool) → (ℕ → ℕ → Bool) → ℕ → ℕ → Type 0
Then r s a b = (m : ℕ) × T (r a m) × T (s m b)

-- k steps of r lead on from a
unfoldable pub Goes : (ℕ → ℕ → Bool) → ℕ → ℕ → Type 0
Goes r zero a = Unit {0}
Goes r (suc k) a = (m : ℕ) × T (r a m) × Goes r k m
