use Rattle.std.proofs.Common.{◌+◌, ◌*◌, ◌/◌, ◌%◌, ◌^◌, get_or, arith}
use lib.Bits.{bit_or}
use Rattle.std.proofs.lemmas.Nat.{one_shl}
use Rattle.std.proofs.lemmas.Bool.Decides.{nat_tests}
use Rattle.event_set.proofs.Digits.{bit_of_or, bit_pow}
use Rattle.relation.proofs.Words.{holds_set, holds_at}
use Rattle.relation.proofs.table.Relation.insert.Goals as goal

pub returns : goal.returns
returns c = record {
  adds_just_this_pair = λ x y.
      let ws = c.args.self.now.words in
      let b = c.args.b in
      let i = 4 * c.args.a + b / 64 in
      let one = (1 * 2 ^ (b % 64)) % 2 ^ 64 in
      let after = holds_set ws i (bit_or (get_or ws i 0) one) x y (omega arith) in
      let before = holds_at ws i x y in
      let joined = bit_of_or (get_or ws i 0) one (y % 64) in
      let shifted = one_shl (b % 64) 64 (omega arith) in
      let digit = bit_pow (b % 64) (y % 64) in
      grind (arith, nat_tests);
}
