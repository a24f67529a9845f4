-- The orders of a model on a graph as it stands.
use Rattle.std.specs.Prelude.{ℕ, ◌<◌, Some, None, Option}
use Rattle.execution.specs.Content.{Content}
use Rattle.cycles.specs.Cycles.{Acyclic, Cyclic}
use Rattle.model.specs.Meaning.{Meaning, Serves}

-- the lowest order that has a cycle, if any has one
abbrev pub LowestCyclic : Meaning → Content → Option ℕ → Type 0
LowestCyclic m g None = Serves m g
LowestCyclic m g (Some k) = (k < m.orders) × Cyclic (m.pairs g k) × ((j : ℕ) → j < k → Acyclic (m.pairs g j))
