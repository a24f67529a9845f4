use Rattle.std.proofs.Common.{ℕ, ◌<◌, T, subst, rules}
use borrow.Author.Tests.{tests}
use Rattle.std.specs.Option.{MatchOption}
use Rattle.event_set.specs.Sets.{has, LeadsOn}
use Rattle.event_set.specs.declared.event_set.EventSet.{EventSet}
use Rattle.event_set.proofs.Found.{lowest_by_find}
use Rattle.relation.specs.Table.{holds}
use Rattle.relation.proofs.table.Relation.lowest_free.Goals as goal

pub returns : goal.returns
returns c =
    let r = holds c.args.self.now in
    subst (λ (s : EventSet). MatchOption c.find.result ((x : ℕ) → T (has s x) → LeadsOn r c.args.left x) (λ a. T (has s a) × (LeadsOn r c.args.left a → ⊥) × ((x : ℕ) → x < a → T (has s x) → LeadsOn r c.args.left x)))
    c.into_iter.ensures.into_iter_gives
    (lowest_by_find _ (λ x. LeadsOn r c.args.left x → ⊥) (λ x. LeadsOn r c.args.left x) (λ x q k. search (rules, tests)) (λ x q k. search (rules, tests)) _ _ _ c.find.ensures.ran)
