use Rattle.std.proofs.Common.{◌≡◌, ◌&&◌, get_or, refl, ap, ◌∙◌, rules}
use lib.Bits.{bit_and}
use Rattle.event_set.specs.Sets.{bit}
use Rattle.event_set.proofs.Digits.{bit_of_and}
use Rattle.event_set.proofs.Words.{has_joined}
use Rattle.event_set.proofs.event_set.EventSet.intersect_with.Goals as goal

pub returns : goal.returns
returns c = record {
  has_the_events_of_both = has_joined (λ p q. p && q) _ _ _ refl (λ i k l m.
      let ws = c.args.self.now.words in
      let os = c.args.other.now.words in
      let word : get_or c.word_by_word.result.words i 0 ≡ bit_and (get_or ws i 0) (get_or os i 0) = search (rules, c.word_by_word.ensures.gives_each_word i l) in
      ap (λ w. bit w k) word ∙ bit_of_and (get_or ws i 0) (get_or os i 0) k);
}
