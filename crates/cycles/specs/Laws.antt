-- What holds of every relation.
use Rattle.std.specs.Prelude.{◌≡◌, ℕ, Bool, List}
use Rattle.cycles.specs.Steps.{Plus, Within}
use Rattle.cycles.specs.Cycles.{Cycle, Cyclic, Acyclic, FirstCycle}
use Rattle.cycles.specs.Listings.{among, Listing}

-- a relation that holds every pair of another has every cycle of it
abbrev pub LargerKeepsCycles : Type 0
LargerKeepsCycles = (r s : ℕ → ℕ → Bool) → Within r s → (xs : List ℕ) → Cycle r xs → Cycle s xs

-- a relation has a cycle exactly when some event reaches itself in one or more steps
abbrev pub CyclesAreReturns : Type 0
CyclesAreReturns = (r : ℕ → ℕ → Bool) → (Cyclic r → (a : ℕ) × Plus r a a) × ((a : ℕ) → Plus r a a → Cyclic r)

-- the first n events can be listed exactly when there is no cycle among them
abbrev pub ListedExactlyWithoutCycles : Type 0
ListedExactlyWithoutCycles = (r : ℕ → ℕ → Bool) (n : ℕ)
    → ((xs : List ℕ) × Listing r n xs → Acyclic (among n r)) × (Acyclic (among n r) → (xs : List ℕ) × Listing r n xs)

-- the list is unique
abbrev pub OneListing : Type 0
OneListing = (r : ℕ → ℕ → Bool) (n : ℕ) (xs ys : List ℕ) → Listing r n xs → Listing r n ys → xs ≡ ys

-- the first cycle is unique
abbrev pub OneFirstCycle : Type 0
OneFirstCycle = (r : ℕ → ℕ → Bool) (xs ys : List ℕ) → FirstCycle r xs → FirstCycle r ys → xs ≡ ys
