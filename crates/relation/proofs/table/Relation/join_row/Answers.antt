use Rattle.std.proofs.Common.{◌+◌, ◌*◌, ◌%◌, get_or, arith}
use lib.Bits.{bit_or}
use Rattle.std.proofs.lemmas.Bool.Decides.{nat_tests}
use Rattle.event_set.proofs.Digits.{bit_of_or}
use Rattle.relation.proofs.Words.{holds_set, holds_at}
use Rattle.event_set.proofs.Words.{has_at, has_outside}
use Rattle.relation.proofs.table.Relation.join_row.Goals as goal

pub loop-i-preserved : goal.loop-i-preserved
loop-i-preserved c = λ x y.
    let ws = c.loop-i.self.words in
    let os = c.args.seconds.now.words in
    let i = c.loop-i.i in
    let to = 4 * c.args.a + i in
    let after = holds_set ws to (bit_or (get_or ws to 0) (get_or os i 0)) x y (omega arith) in
    let joined = bit_of_or (get_or ws to 0) (get_or os i 0) (y % 64) in
    let at-to = holds_at ws to x y in
    let at_from = has_at os i y in
    let none = has_outside c.args.seconds.now y in
    let was = c.loop-i.invariant x y in
    grind (arith, nat_tests)

pub returns : goal.returns
returns c = record {
  adds_just_those_pairs_of_a = λ x y.
      let was = c.loop-i.invariant x y in
      let none = has_outside c.args.seconds.now y in
      grind (arith, nat_tests);
}
