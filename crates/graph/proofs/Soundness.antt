-- Soundness has one proof at most, so that a graph's own fact can be taken out of its type.
use mathlib.Core.Logic.{∥∥₁_elim}
use mathlib.Core.HLevel.{Π_prop}
use native.Mathlib.Nat.{ℕ_set}
use native.Mathlib.Bridge.{le_prop}
use lib.Dec.{T_prop}
use base.Stored.{Coded-set}
use Rattle.event.specs.contracts.event.Event.{the_row}
use Rattle.graph.specs.declared.tables.Graph.{Graph}
use Rattle.execution.specs.Content.{Content}
use Rattle.execution.specs.Sound.{Sound, sound_prop, recorded_prop, linked_prop}
use Rattle.graph.specs.View.{view}

sound_is_prop : (g : Content) → IsProp (Sound g)
sound_is_prop g = sound_prop {g = g} le_prop le_prop le_prop le_prop le_prop le_prop (ℕ_set _ _)
    (Π_prop λ l. Π_prop λ h. Coded-set the_row.coded _ _)
    (Π_prop λ a. Π_prop λ h. Π_prop λ k. recorded_prop le_prop le_prop (Π_prop λ l. Π_prop λ e. le_prop) (T_prop _))
    (Π_prop λ w. Π_prop λ r. Π_prop λ h. linked_prop (T_prop _) (T_prop _) (T_prop _) (T_prop _))
    (Π_prop λ w. Π_prop λ h. T_prop _)
    (T_prop _)
    (Π_prop λ l. Π_prop λ h. T_prop _)
    (Π_prop λ l. Π_prop λ w. Π_prop λ h. Π_prop λ k. Π_prop λ s. Π_prop λ n. T_prop _)

pub sound_of : (g : Graph) → Sound (view g)
sound_of g = ∥∥₁_elim g.sound (sound_is_prop (view g)) (λ s. s)
