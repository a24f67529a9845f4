use Rattle.std.proofs.Common.{◌%◌, get_or, arith}
use lib.Bits.{bit_or}
use Rattle.std.proofs.lemmas.Bool.Decides.{nat_tests}
use Rattle.event_set.proofs.Digits.{bit_of_or}
use Rattle.relation.proofs.Words.{holds_set, holds_at, holds_outside}
use Rattle.cycles.proofs.Walks.{larger_keeps_cycles}
use Rattle.relation.proofs.table.Relation.union_with.Goals as goal

pub loop-i-preserved : goal.loop-i-preserved
loop-i-preserved c = λ x y.
    let ws = c.loop-i.word-items in
    let os = c.args.other.now.words in
    let i = c.loop-i.i in
    let after = holds_set ws i (bit_or (get_or ws i 0) (get_or os i 0)) x y (omega arith) in
    let joined = bit_of_or (get_or ws i 0) (get_or os i 0) (y % 64) in
    let at_here = holds_at ws i x y in
    let at_other = holds_at os i x y in
    let was = c.loop-i.invariant x y in
    grind (arith, nat_tests)

pub returns : goal.returns
returns c = record {
  holds_the_pairs_of_either = λ x y.
      let was = c.loop-i.invariant x y in
      let none = holds_outside c.args.other.now x y in
      grind (arith, nat_tests);
  a_larger_relation_keeps_every_cycle = larger_keeps_cycles;
}
