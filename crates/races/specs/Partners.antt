-- Races seen from their lower event.
use Rattle.std.specs.Prelude.{ℕ, ◌<◌, Bool, T, Some, None, Option}
use Rattle.execution.specs.Content.{Content}
use Rattle.races.specs.Races.{races}

-- the lowest event above a that races with it, if any does
abbrev pub LowestPartner : Content → (ℕ → ℕ → Bool) → ℕ → Option ℕ → Type 0
LowestPartner g hb a None = (d : ℕ) → a < d → T (races g hb a d) → ⊥
LowestPartner g hb a (Some b) = (a < b) × T (races g hb a b) × ((d : ℕ) → a < d → d < b → T (races g hb a d) → ⊥)
