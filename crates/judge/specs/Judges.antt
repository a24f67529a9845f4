-- What the parts of a judge promise one another.
use Rattle.std.specs.Prelude.{◌≡◌, ℕ, ◌*◌, ◌<◌, ◌≤◌, List, ◌++◌, length, Some, None, Option}
use Rattle.execution.specs.Content.{Content}
use Rattle.cycles.specs.Cycles.{Acyclic, FirstCycle}
use Rattle.sequence.specs.declared.sequence.Sequence.{Sequence}
use Rattle.relation.specs.Sequences.{events}
use Rattle.model.specs.Meaning.{Meaning, Serves}
use Rattle.verdict.specs.Shown.{modification_orders}
use Rattle.verdict.specs.Answers.{joined}
use Rattle.verdict.specs.Places.{PlacedFirst}
use Rattle.judge.specs.Sheets.{Listed}

-- the lowest order that has a cycle, with its first cycle, or none where no order has one
abbrev pub FirstFound : Meaning → Content → Option (ℕ × Sequence ℕ 256) → Type 0
FirstFound m g None = Serves m g
FirstFound m g (Some (k, cycle)) = (k < m.orders) × FirstCycle (m.pairs g k) (events cycle) × ((j : ℕ) → j < k → Acyclic (m.pairs g j))

-- the lists of the first n orders are shown, each of 256 events at most
pub record ListsShown (m : Meaning) (h : Content) (n : ℕ) (shown : List ℕ) : Type 0 where
  pub lists : List (List ℕ)
  pub listed : Listed m h n lists
  pub all : shown ≡ joined lists
  pub few : length shown ≤ 256 * n

-- the lists of h are shown, and behind them its modification orders
pub record OrderShown (m : Meaning) (h : Content) (shown : List ℕ) : Type 0 where
  pub lists : List (List ℕ)
  pub listed : Listed m h m.orders lists
  pub all : shown ≡ joined lists ++ joined (modification_orders h)

-- the graph is allowed, and that is shown of its first full modification order
pub record AllowedShown (m : Meaning) (g : Content) (shown : List ℕ) : Type 0 where
  pub full : Content
  pub first : PlacedFirst m g full
  pub order : OrderShown m full shown
