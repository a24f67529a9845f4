use Rattle.std.proofs.Common.{◌/◌, ◌&&◌, ◌||◌, eqb, ltb}
use Rattle.event_set.specs.Sets.{has}
use Rattle.relation.specs.Table.{holds, Is}
use Rattle.relation.proofs.table.Relation.join_row.Given as goal

abbrev pub invariant-loop-i : goal.invariant-loop-i
invariant-loop-i l = Is l.self (λ x y. holds l.initial.self x y || (eqb x l.a && (ltb (y / 64) l.i && has l.seconds y)))
