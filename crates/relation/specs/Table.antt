-- A relation on the events 0 to 255, as the bits of 1024 words.
use Rattle.std.specs.Prelude.{◌≡◌, ℕ, ◌+◌, ◌*◌, ◌/◌, ◌%◌, Bool, ◌&&◌, nat_lt, slice_index}
use Rattle.event_set.specs.Sets.{bit}
use Rattle.relation.specs.declared.table.Relation.{Relation}

-- whether the table holds the pair (a, b); it holds none past event 255
unfoldable pub holds : Relation → ℕ → ℕ → Bool
holds t a b = nat_lt a 256 && (nat_lt b 256 && bit (slice_index t.words (4 * a + b / 64)) (b % 64))

-- the table holds just the pairs of r
abbrev pub Is : Relation → (ℕ → ℕ → Bool) → Type 0
Is t r = (a b : ℕ) → holds t a b ≡ r a b
