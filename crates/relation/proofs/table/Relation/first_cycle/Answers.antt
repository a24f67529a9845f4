use Rattle.std.proofs.Common.{ℕ, Bool, Option, Some, None, length, refl, subst, inl, inr, arith}
use Rattle.std.proofs.lemmas.Bool.{both_ways, cases_eq, cases_lt}
use Rattle.relation.specs.Table.{holds}
use Rattle.relation.specs.Sequences.{events}
use Rattle.std.specs.Option.{IfSome, IsSomeAnd, MatchOption}
use Rattle.sequence.specs.declared.sequence.Sequence.{Sequence}
use Rattle.cycles.specs.Cycles.{Acyclic, Cyclic, FirstCycle, Way}
use Rattle.cycles.proofs.Tests.{is_true}
use Rattle.relation.proofs.Words.{holds_inside}
use Rattle.cycles.proofs.Layers.{way_none, ways_more}
use Rattle.cycles.proofs.Firsts.{NoneShorter, none_acyclic, one_first_cycle}
use Rattle.relation.proofs.table.Relation.first_cycle.Goals as goal

pub returns-then-is_acyclic : goal.returns-then-is_acyclic
returns-then-is_acyclic c = record {
  none_exactly_when_there_is_no_cycle = c.if-is_acyclic.ensures.true_exactly_when_there_is_no_cycle;
  else_the_shortest_and_of_those_the_first = tt;
  there_is_one_first_cycle_at_most = one_first_cycle;
}

pub loop-between-init : goal.loop-between-init
loop-between-init c = (λ x y. way_none (holds c.args.self.now) x y, λ j a l w. absurd (omega arith))

pub told_from-requires : goal.told_from-requires
told_from-requires c =
    let ways = c.loop-between.invariant.0 in
    let found = c.in-Some.ensures in
    record {
      first = record {
        returns = (ways c.in-Some.start c.in-Some.start).0 (is_true _ found.0);
        lowest = λ b l w. both_ways _ (found.1 b l) ((ways b b).1 w);
        soonest = c.loop-between.invariant.1;
      };
    }

shown : (r : ℕ → ℕ → Bool) (o : Option (Sequence ℕ 256)) → IsSomeAnd o (λ s. FirstCycle r (events s))
    → MatchOption o (Acyclic r) (λ _. Cyclic r) × IfSome o (λ s. FirstCycle r (events s))
shown r None h = absurd h
shown r (Some s) h = ((events s, h.round), h)

pub returns-in-Some : goal.returns-in-Some
returns-in-Some c =
    let told = shown (holds c.args.self.now) _ c.told_from.ensures in
    record {
      none_exactly_when_there_is_no_cycle = told.0;
      else_the_shortest_and_of_those_the_first = told.1;
      there_is_one_first_cycle_at_most = one_first_cycle;
    }

pub loop-between-preserved : goal.loop-between-preserved
loop-between-preserved c =
    let r = holds c.args.self.now in
    let k = c.loop-between.between in
    let ways = c.loop-between.invariant.0 in (
      ways_more r k _ _ ways c.composed-ways.ensures,
      λ j a l w. elim (cases_eq j k) [
        | inl e ↦ both_ways _ (c.in_default.ensures a) ((ways a a).1 (subst (λ i. Way r i a a) e w))
        | inr n ↦ c.loop-between.invariant.1 j a (omega arith) w
      ],
    )

pub returns : goal.returns
returns c =
    let r = holds c.args.self.now in
    let none : NoneShorter r 256 = λ a ys h. elim (cases_lt (length ys) 256) [
      | inr l ↦ l
      | inl l ↦ absurd (c.loop-between.invariant.1 (length ys) a (omega arith) (ys, refl, h))
    ] in
    record {
      none_exactly_when_there_is_no_cycle = none_acyclic r 256 (holds_inside c.args.self.now) none;
      else_the_shortest_and_of_those_the_first = tt;
      there_is_one_first_cycle_at_most = one_first_cycle;
    }
