use Rattle.std.proofs.Common.{◌-◌, T, get_or, sym, refl, subst, arith, rules}
use Rattle.std.proofs.iter.Next.{firm}
use lib.Bits.{bit_and, and_le_r}
use lib.Count.{count_trailing_zeros}
use Rattle.event_set.proofs.Digits.{lowest}
use Rattle.event_set.proofs.Words.{has_taken, has_before, has_rest, no_word, weight_less}
use Rattle.event_set.proofs.event_set.EventSetIterator.next.Goals as goal

pub returns-then-word-ne0 : goal.returns-then-word-ne0
returns-then-word-ne0 c =
    let ws = c.args.self.now.words in
    let i = c.loop-i.i in
    let w = get_or ws i 0 in
    let v = bit_and w (w - 1) in
    let t = count_trailing_zeros 64 w in
    let low = lowest 64 w (omega arith) (omega arith) in
    record {
      steps = (
        subst T (sym (has_taken ws i t v (omega arith) (omega arith) low.0 low.1)) tt,
        has_before ws i t v (omega arith) (omega arith) low.0 low.1 c.loop-i.invariant,
        has_rest ws i t v (omega arith) (omega arith) low.0 low.1,
      );
      goes = firm (tt, tt, weight_less ws i v (omega arith) (omega (arith, and_le_r w (w - 1)))) (λ h. search rules);
    }

pub returns-clause-steps : goal.returns-clause-steps
returns-clause-steps c = (no_word c.args.self.now.words (λ k h. c.loop-i.invariant k (omega arith)), refl)
