-- Full modification orders that extend the placements, and those that serve a model.
use Rattle.std.specs.Prelude.{◌≡◌, ℕ, T}
use Rattle.event.specs.Labels.{is_write}
use Rattle.execution.specs.Lists.{holds}
use Rattle.execution.specs.Content.{Content, label_of, mo}
use Rattle.execution.specs.Sound.{Sound}
use Rattle.model.specs.Meaning.{Meaning, Serves}

-- h is g with every write placed, in an order that keeps that of g's placements
pub record Completion (g h : Content) : Type 0 where
  pub threads : h.threads ≡ g.threads
  pub locations : h.locations ≡ g.locations
  pub events : h.events ≡ g.events
  pub sources : h.sources ≡ g.sources
  pub sound : Sound h
  pub full : (w : ℕ) → T (is_write (label_of h w)) → T (holds h.placed w)
  pub extends : (a b : ℕ) → T (mo g a b) → T (mo h a b)

-- some full modification order that extends g's placements serves
abbrev pub Allowed : Meaning → Content → Type 0
Allowed m g = (h : Content) × Completion g h × Serves m h
