-- What a closure tells: of which pairs, of which events, or of each event's row.
use Rattle.std.specs.Prelude.{◌≡◌, ℕ, ◌<◌, Bool, T, length}
use Rattle.event.specs.declared.event.Label.{Label}
use Rattle.execution.specs.Content.{Content, label_of}
use Rattle.event_set.specs.declared.event_set.EventSet.{EventSet}
use Rattle.event_set.specs.Sets.{HasJust}

-- at each pair of r it tells whether s has it, and s has no other pairs
pub record TellsPairs (post : ℕ → ℕ → Bool → Type 0) (r s : ℕ → ℕ → Bool) : Type 0 where
  pub within : (a b : ℕ) → T (s a b) → T (r a b)
  pub told : (a b : ℕ) (p : Bool) → T (r a b) → post a b p → p ≡ s a b

-- at the label of each event of g it tells whether s has the event, and s has no others
pub record TellsEvents (post : Label → Bool → Type 0) (g : Content) (s : ℕ → Bool) : Type 0 where
  pub within : (a : ℕ) → T (s a) → a < length g.events
  pub told : (a : ℕ) (p : Bool) → a < length g.events → post (label_of g a) p → p ≡ s a

-- at each event of g it gives the event's row of r, and r has no other rows
pub record TellsRows (post : ℕ → EventSet → Type 0) (g : Content) (r : ℕ → ℕ → Bool) : Type 0 where
  pub within : (a b : ℕ) → T (r a b) → a < length g.events
  pub told : (a : ℕ) (row : EventSet) → a < length g.events → post a row → HasJust row (r a)
