use Rattle.std.proofs.Common.{◌≡◌, ℕ, ◌<◌, false, ltb, T, Some, None, Option, inl, inr, arith, rules}
use borrow.Author.Tests.{tests}
use Rattle.std.specs.Option.{MatchOption}
use Rattle.std.proofs.lemmas.Bool.{cases_lt}
use Rattle.std.proofs.lemmas.Bool.Decides.{nat_tests}
use Rattle.event_set.specs.Sets.{has, HasJust}
use Rattle.event_set.specs.declared.event_set.EventSet.{EventSet}
use Rattle.event_set.proofs.Found.{lowest_by_find}
use Rattle.event_set.proofs.Words.{has_inside}
use Rattle.relation.specs.Table.{holds}
use Rattle.relation.specs.declared.table.Relation.{Relation}
use Rattle.relation.proofs.Words.{holds_outside}
use Rattle.relation.proofs.table.Relation.lowest_return.Goals as goal

of_all : (t : Relation) (s : EventSet) (r : Option ℕ) → HasJust s (λ x. ltb x 256)
    → MatchOption r ((x : ℕ) → T (has s x) → holds t x x ≡ false) (λ a. T (has s a) × T (holds t a a) × ((x : ℕ) → x < a → T (has s x) → holds t x x ≡ false))
    → MatchOption r ((x : ℕ) → holds t x x ≡ false) (λ a. T (holds t a a) × ((x : ℕ) → x < a → holds t x x ≡ false))
of_all t s None every none = λ x. elim (cases_lt x 256) [
  | inl l ↦ none x (let at = every x in grind (arith, nat_tests))
  | inr l ↦ holds_outside t x x (inl l)
]
of_all t s (Some a) every w = (w.1, λ x l. w.2 x l (let at = every x in let top = has_inside s a w.0 in grind (arith, nat_tests)))

pub returns : goal.returns
returns c =
    let r = holds c.args.self.now in
    of_all c.args.self.now c.full.result c.find.result c.full.ensures.has_every_event
    (lowest_by_find _ (λ x. T (r x x)) (λ x. r x x ≡ false) (λ x q k. search (rules, tests)) (λ x q k. search (rules, tests)) _ _ _ c.find.ensures.ran)
