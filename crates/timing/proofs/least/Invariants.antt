use Rattle.std.proofs.Common.{◌≡◌, ℕ, ◌+◌}
use Rattle.std.specs.List.{FoldsTo, range_with_len}
use Rattle.timing.proofs.least.Given as goal

-- what the n rounds that are left lead to, all rounds lead to
abbrev pub invariant-loop-round : goal.invariant-loop-round
invariant-loop-round g l =
    goal.W-IsAlwaysCallable g l.work
    × ((n : ℕ) (last : _) → l.round + n ≡ l.rounds → FoldsTo (λ p x q. goal.W-step g p x tt q) l.work (range_with_len l.round n) last
    → FoldsTo (λ p x q. goal.W-step g p x tt q) l.fn.work (range_with_len 0 l.rounds) last)
