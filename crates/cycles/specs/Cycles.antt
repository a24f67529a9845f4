-- Cycles of a relation, and the one that is shown.
use Rattle.std.specs.Prelude.{◌≡◌, ℕ, ◌<◌, ◌≤◌, Bool, T, ◌⊎◌, List, [], ◌∷◌, length}
use Rattle.std.specs.List.{AllByRecursion}

-- steps of r from a, by way of the events xs, to z
abbrev pub Leads : (ℕ → ℕ → Bool) → ℕ → List ℕ → ℕ → Type 0
Leads r a [] z = T (r a z)
Leads r a (x ∷ xs) z = T (r a x) × Leads r x xs z

-- a list of events, each paired with the next and the last with the first
abbrev pub Cycle : (ℕ → ℕ → Bool) → List ℕ → Type 0
Cycle r [] = ⊥
Cycle r (a ∷ xs) = Leads r a xs a

-- some list is a cycle
abbrev pub Cyclic : (ℕ → ℕ → Bool) → Type 0
Cyclic r = (xs : List ℕ) × Cycle r xs

-- no list is a cycle
abbrev pub Acyclic : (ℕ → ℕ → Bool) → Type 0
Acyclic r = (xs : List ℕ) → Cycle r xs → ⊥

-- a list that is told from its lowest event
abbrev pub FromLowest : List ℕ → Type 0
FromLowest [] = Unit {0}
FromLowest (a ∷ xs) = AllByRecursion (λ x. a ≤ x) xs

-- by event numbers from left to right, the first list does not come after the second
abbrev pub NotAfter : List ℕ → List ℕ → Type 0
NotAfter [] ys = Unit {0}
NotAfter (x ∷ xs) [] = ⊥
NotAfter (x ∷ xs) (y ∷ ys) = (x < y) ⊎ ((x ≡ y) × NotAfter xs ys)

-- a cycle, told from its lowest event; no cycle is shorter, and none that is as short comes before it
pub record FirstCycle (r : ℕ → ℕ → Bool) (xs : List ℕ) : Type 0 where
  pub round : Cycle r xs
  pub from_lowest : FromLowest xs
  pub shortest : (ys : List ℕ) → Cycle r ys → length xs ≤ length ys
  pub first : (ys : List ℕ) → Cycle r ys → length ys ≡ length xs → NotAfter xs ys

-- a way from a to z by k events
abbrev pub Way : (ℕ → ℕ → Bool) → ℕ → ℕ → ℕ → Type 0
Way r k a z = (xs : List ℕ) × (length xs ≡ k) × Leads r a xs z

-- a is the lowest event that comes back to itself by k events, and none does by fewer
pub record FirstReturn (r : ℕ → ℕ → Bool) (k a : ℕ) : Type 0 where
  pub returns : Way r k a a
  pub lowest : (b : ℕ) → b < a → Way r k b b → ⊥
  pub soonest : (j b : ℕ) → j < k → Way r j b b → ⊥
