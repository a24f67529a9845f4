-- A bounded sequence of events.
use Rattle.std.specs.Prelude.{ℕ, List}
use Rattle.sequence.specs.Sequences.{items}
use Rattle.sequence.specs.declared.sequence.Sequence.{Sequence}

-- the events in their order
abbrev pub events : Sequence ℕ 256 → List ℕ
events s = items s
