-- What a search finds.
use Rattle.std.specs.Prelude.{◌≡◌, ℕ, Some, None, Option}
use Rattle.graph.specs.declared.tables.Graph.{Graph}
use Rattle.execution.specs.Content.{Content}
use Rattle.execution.specs.Entries.{denial, entered, place}
use Rattle.graph.specs.View.{view}
use Rattle.model.specs.Meaning.{Meaning, Serves}
use Rattle.verdict.specs.Completions.{Allowed}
use Rattle.verdict.specs.Places.{PlacedFirst}
use Rattle.verdict.specs.Fillings.{Fillable, FilledFirst}

-- of the full modification orders that serve the one to show, or none exactly when none serves
abbrev pub Finds : Meaning → Content → Option Graph → Type 0
Finds m g None = Allowed m g → ⊥
Finds m g (Some h) = PlacedFirst m g (view h)

-- the same with open writes below n left out
abbrev pub FindsFrom : ℕ → Meaning → Content → Option Graph → Type 0
FindsFrom n m g None = Fillable m n g → ⊥
FindsFrom n m g (Some h) = FilledFirst m n g (view h)

-- the graph with w directly after v, or none exactly when that is denied or gives some order a cycle
abbrev pub Puts : ℕ → ℕ → Meaning → Content → Option Graph → Type 0
Puts w v m g None = denial g (place w v) ≡ None → Serves m (entered g (place w v)) → ⊥
Puts w v m g (Some h) = (denial g (place w v) ≡ None) × (view h ≡ entered g (place w v)) × Serves m (view h)
