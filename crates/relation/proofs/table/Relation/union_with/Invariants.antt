use Rattle.std.proofs.Common.{◌+◌, ◌*◌, ◌/◌, ◌&&◌, ◌||◌, ltb}
use Rattle.relation.specs.Table.{holds, Is}
use Rattle.relation.proofs.Words.{table}
use Rattle.relation.proofs.table.Relation.union_with.Given as goal

abbrev pub invariant-loop-i : goal.invariant-loop-i
invariant-loop-i l = Is (table l.word-items) (λ x y. holds l.fn.self x y || (ltb (4 * x + y / 64) l.i && holds l.other x y))
