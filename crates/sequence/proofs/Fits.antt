-- A sequence has no more items than fit.
use Rattle.std.proofs.Common.{ℕ, ◌≤◌, length, arith}
use Rattle.std.proofs.lemmas.List.{length-take-le}
use Rattle.sequence.specs.declared.sequence.Sequence.{Sequence}
use Rattle.sequence.specs.Sequences.{items}

pub items_fit : {T : Type 0} {N : ℕ} (s : Sequence T N) → length (items s) ≤ N
unfolding items
items_fit s = omega (arith, s.sized, s.bounded, length-take-le s.len s.places)
