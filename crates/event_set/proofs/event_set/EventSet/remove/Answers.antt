use Rattle.std.proofs.Common.{◌-◌, ◌*◌, ◌/◌, ◌%◌, ◌^◌, get_or, arith}
use lib.Bits.{bit_and}
use Rattle.std.proofs.lemmas.Nat.{one_shl}
use Rattle.std.proofs.lemmas.Bool.Decides.{nat_tests}
use Rattle.event_set.proofs.Digits.{bit_of_and, bit_not, bit_pow}
use Rattle.event_set.proofs.Words.{has_set, has_at}
use Rattle.event_set.proofs.event_set.EventSet.remove.Goals as goal

pub returns : goal.returns
returns c = record {
  takes_just_this_one = λ x.
      let ws = c.args.self.now.words in
      let e = c.args.event in
      let one = (1 * 2 ^ (e % 64)) % 2 ^ 64 in
      let after = has_set ws (e / 64) (bit_and (get_or ws (e / 64) 0) (18446744073709551615 - one)) x (omega arith) in
      let before = has_at ws (e / 64) x in
      let both = bit_of_and (get_or ws (e / 64) 0) (18446744073709551615 - one) (x % 64) in
      let turned = bit_not 64 one (x % 64) (omega arith) (omega arith) in
      let shifted = one_shl (e % 64) 64 (omega arith) in
      let digit = bit_pow (e % 64) (x % 64) in
      grind (arith, nat_tests);
}
