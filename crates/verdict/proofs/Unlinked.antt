-- Reads without a source, as pairs of an event and its source.
use Rattle.std.proofs.Common.{◌≡◌, ℕ, ◌<◌, not, ◌&&◌, T, List, length, get_or, is_some, Some, None, Option, MatchOption, sym, ◌∙◌, subst, arith}
use Rattle.std.specs.List.{zip, AllWithin, HoldsAt}
use Rattle.std.proofs.lemmas.Slice.Zip.{length-zip, get_or-zip}
use Rattle.event.specs.declared.event.Event.{Event}
use Rattle.event.specs.Labels.{no_event, is_read}
use Rattle.execution.specs.Content.{Content}
use Rattle.execution.specs.Sound.{Sound}
use Rattle.verdict.specs.Numbers.{lowest}
use Rattle.verdict.specs.Denials.{unlinked}
use Rattle.verdict.proofs.Counting.{lowest_none, lowest_is}

abbrev pub Unsourced : Event × Option ℕ → Type 0
Unsourced p = T (is_read p.0.label && not (is_some p.1))

-- the first such pair stands at the lowest unlinked read
module _ (g : Content) (s : Sound g) where
  pairs : List (Event × Option ℕ)
  pairs = zip g.events g.sources

  as_many : length pairs ≡ length g.events
  unfolding pairs
  as_many = length-zip g.events g.sources ∙ omega (arith, s.aligned)

  at : (k : ℕ) → k < length g.events → get_or pairs k (no_event, None) ≡ (get_or g.events k no_event, get_or g.sources k None)
  unfolding pairs
  at k l = get_or-zip g.events g.sources k (no_event, None) l (omega (arith, s.aligned))

  pub first_unlinked : (r : Option ℕ) → MatchOption r (AllWithin (λ p. Unsourced p → ⊥) (zip g.events g.sources) 0 (length (zip g.events g.sources))) (λ i. (i < length (zip g.events g.sources)) × HoldsAt Unsourced (zip g.events g.sources) i × AllWithin (λ p. Unsourced p → ⊥) (zip g.events g.sources) 0 i)
      → r ≡ lowest (length g.events) (unlinked g)
  unfolding pairs
  first_unlinked None h = sym (lowest_none (length g.events) (unlinked g) (λ a l. subst (λ p. Unsourced p → ⊥) (at a l) (h a (no_event, None) (omega arith) (omega (arith, as_many)))))
  first_unlinked (Some i) (l, here, before) =
      let inside : i < length g.events = omega (arith, as_many) in
      sym (lowest_is (length g.events) (unlinked g) i inside (subst Unsourced (at i inside) (here (no_event, None)))
      (λ a k. subst (λ p. Unsourced p → ⊥) (at a (omega arith)) (before a (no_event, None) (omega arith) k)))
