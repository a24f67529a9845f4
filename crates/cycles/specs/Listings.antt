-- Lists of events in which each stands after those that precede it.
use Rattle.std.specs.Prelude.{◌≡◌, ℕ, ◌<◌, ◌≤◌, Bool, false, ◌&&◌, ◌||◌, T, List, [], ◌∷◌, ◌++◌, ◌==◌, nat_lt}

-- whether a stands in the list
abbrev pub stands : List ℕ → ℕ → Bool
stands [] a = false
stands (x ∷ xs) a = x == a || stands xs a

-- the pairs of r among the first n events
abbrev pub among : ℕ → (ℕ → ℕ → Bool) → ℕ → ℕ → Bool
among n r a b = nat_lt a n && (nat_lt b n && r a b)

-- one of the first n events that is not listed, and whose predecessors among them all are
pub record Ready (r : ℕ → ℕ → Bool) (n : ℕ) (listed : List ℕ) (a : ℕ) : Type 0 where
  pub inside : a < n
  pub new : T (stands listed a) → ⊥
  pub preceded : (p : ℕ) → T (among n r p a) → T (stands listed p)

-- all of the first n events, each the lowest that is ready after those before it
pub record Listing (r : ℕ → ℕ → Bool) (n : ℕ) (xs : List ℕ) : Type 0 where
  pub all : (a : ℕ) → a < n → T (stands xs a)
  pub ready : (ys zs : List ℕ) (a : ℕ) → xs ≡ ys ++ (a ∷ zs) → Ready r n ys a
  pub lowest : (ys zs : List ℕ) (a b : ℕ) → xs ≡ ys ++ (a ∷ zs) → Ready r n ys b → a ≤ b
