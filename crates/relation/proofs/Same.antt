-- What is said of a table's pairs is said of the relation that they are.
use Rattle.std.proofs.Common.{◌≡◌, ℕ, Bool}
use mathlib.Core.Path.{fun_ext}
use Rattle.relation.specs.Table.{holds, Is}
use Rattle.relation.specs.declared.table.Relation.{Relation}

pub is_same : (t : Relation) (r : ℕ → ℕ → Bool) → Is t r → holds t ≡ r
is_same t r e = fun_ext (λ a. fun_ext (λ b. e a b))
