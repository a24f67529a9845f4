use Rattle.std.proofs.Common.{◌≡◌, ◌-◌, not, ◌&&◌, get_or, refl, ap, ◌∙◌, rules}
use lib.Bits.{bit_and}
use Rattle.event_set.specs.Sets.{bit}
use Rattle.event_set.proofs.Digits.{bit_of_and, bit_not}
use Rattle.event_set.proofs.Words.{has_joined}
use Rattle.event_set.proofs.event_set.EventSet.difference_with.Goals as goal

pub returns : goal.returns
returns c = record {
  has_the_events_of_this_alone = has_joined (λ p q. p && not q) _ _ _ refl (λ i k l m.
      let ws = c.args.self.now.words in
      let os = c.args.other.now.words in
      let w = get_or ws i 0 in
      let v = get_or os i 0 in
      let word : get_or c.word_by_word.result.words i 0 ≡ bit_and w (18446744073709551615 - v) = search (rules, c.word_by_word.ensures.gives_each_word i l) in
      ap (λ u. bit u k) word ∙ bit_of_and w (18446744073709551615 - v) k ∙ ap (λ t. bit w k && t) (bit_not 64 v k (c.word_by_word.ensures.of_words_of_64_bits i l) m));
}
