-- A bounded list.
use Rattle.std.specs.Prelude.{ℕ, List, take}
use Rattle.sequence.specs.declared.sequence.Sequence.{Sequence}

-- the items in their order
unfoldable pub items : {T : Type 0} {N : ℕ} → Sequence T N → List T
items s = take s.len s.places
