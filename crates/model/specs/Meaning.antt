-- What a memory model means, the rules that it keeps, and piles of models.
use Rattle.std.specs.Prelude.{◌≡◌, ℕ, ◌<◌, ◌≤◌, Bool, T, length}
use Rattle.execution.specs.Content.{Content, same_location, po, rf, mo, rb}
use Rattle.execution.specs.Sound.{Sound, Within}
use Rattle.cycles.specs.Cycles.{Acyclic}

-- a number of orders and, for every graph, each order's set of pairs
pub record Meaning : Type 0 where
  pub orders : ℕ
  pub pairs : Content → ℕ → ℕ → ℕ → Bool

-- there are 1 to 4 orders
abbrev pub Few : Meaning → Type 0
Few m = (1 ≤ m.orders) × (m.orders ≤ 4)

-- pairs join the graph's events
abbrev pub Inside : Meaning → Type 0
Inside m = (g : Content) → Sound g → (k a b : ℕ) → T (m.pairs g k a b) → (a < length g.events) × (b < length g.events)

-- orders beyond the last are empty
abbrev pub Beyond : Meaning → Type 0
Beyond m = (g : Content) → Sound g → (k a b : ℕ) → m.orders ≤ k → T (m.pairs g k a b) → ⊥

-- what order 0 of every model holds
pub record Coheres (g : Content) (r : ℕ → ℕ → Bool) : Type 0 where
  pub by_po : (a b : ℕ) → T (po g a b) → T (same_location g a b) → T (r a b)
  pub by_rf : (a b : ℕ) → T (rf g a b) → T (r a b)
  pub by_mo : (a b : ℕ) → T (mo g a b) → T (r a b)
  pub by_rb : (a b : ℕ) → T (rb g a b) → T (r a b)

-- order 0 holds program order between accesses of one location, and all of rf, mo and rb
abbrev pub Floor : Meaning → Type 0
Floor m = (g : Content) → Sound g → Coheres g (m.pairs g 0)

-- a graph within another has each order's pairs there too
abbrev pub Growth : Meaning → Type 0
Growth m = (g h : Content) → Sound g → Sound h → Within g h → (k a b : ℕ) → T (m.pairs g k a b) → T (m.pairs h k a b)

-- the rules that every model keeps
pub record Rules (m : Meaning) : Type 0 where
  pub few : Few m
  pub inside : Inside m
  pub beyond : Beyond m
  pub floor : Floor m
  pub growth : Growth m

-- no order of the model has a cycle on g
abbrev pub Serves : Meaning → Content → Type 0
Serves m g = (k : ℕ) → k < m.orders → Acyclic (m.pairs g k)

-- a pile: as many orders, each keeping every pair of that order below
pub record Over (upper lower : Meaning) : Type 0 where
  pub as_many : upper.orders ≡ lower.orders
  pub keeps : (g : Content) → Sound g → (k a b : ℕ) → T (lower.pairs g k a b) → T (upper.pairs g k a b)
