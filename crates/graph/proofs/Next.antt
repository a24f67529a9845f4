-- The lowest open write, as a search over the numbers of the events finds it.
use Rattle.std.proofs.Common.{ℕ, ◌<◌, ◌≤◌, T, length, Some, None, Option, arith, MatchOption}
use Rattle.execution.specs.Content.{Content, is_open, NextOpen}
use Rattle.execution.proofs.Tests.{left}
use Rattle.execution.proofs.Among.{write_among}

pub next_from : (g : Content) (from end : ℕ) (r : Option ℕ) → length g.events ≤ end →
    MatchOption r ((k : ℕ) → from ≤ k → k < end → T (is_open g k) → ⊥) (λ w. (from ≤ w) × (w < end) × T (is_open g w) × ((k : ℕ) → from ≤ k → k < w → T (is_open g k) → ⊥)) →
    NextOpen g from r
next_from g from end None all h = λ a l o. let among = write_among g a (left _ _ o) in h a l (omega (arith, among)) o
next_from g from end (Some w) all h = (h.0, h.2, h.3)
