use Rattle.std.proofs.Common.{◌≡◌, ℕ, true, false, List, None, sym, ap, ◌∙◌, subst, rules, MatchOption}
use Rattle.event.specs.declared.denial.Denial.TheVariants.{Loose}
use Rattle.execution.specs.Lists.{holds, FirstAt}
use Rattle.execution.specs.Entries.{denial, place}
use Rattle.event.specs.Denials.{unless, refusal}
use Rattle.graph.specs.View.{view}
use Rattle.graph.proofs.Behind.{place_tells, follow_tells}
use Rattle.graph.proofs.tables.Graph.place_to_follow.Goals as goal

pub returns-then-is_some-clause-first_test_that_fails : goal.returns-then-is_some-clause-first_test_that_fails
returns-then-is_some-clause-first_test_that_fails c =
    let placed : holds (view c.args.self.now).placed c.args.write ≡ true =
    ap (λ (xs : List ℕ). holds xs c.args.write) (sym c.placed.ensures.placed_writes_in_order) ∙ place_tells c.placed.result.now c.args.write c.place_of.result c.place_of.ensures.first_place_or_none ∙ sym c.if-is_some.ensures in
    search rules

pub returns-clause-first_test_that_fails : goal.returns-clause-first_test_that_fails
returns-clause-first_test_that_fails c =
    let new : holds (view c.args.self.now).placed c.args.write ≡ false =
    ap (λ (xs : List ℕ). holds xs c.args.write) (sym c.placed.ensures.placed_writes_in_order) ∙ place_tells c.placed.result.now c.args.write c.place_of.result c.place_of.ensures.first_place_or_none ∙ sym c.if-is_some.ensures in
    let follows = follow_tells (view c.args.self.now).placed c.args.after c.place_of-2.result
    (subst (λ (xs : List ℕ). MatchOption c.place_of-2.result (holds xs c.args.after ≡ false) (λ i. FirstAt xs c.args.after i)) c.placed-2.ensures.placed_writes_in_order c.place_of-2.ensures.first_place_or_none) in
    let passed : denial (view c.args.self.now) (place c.args.write c.args.after) ≡ unless (holds (view c.args.self.now).placed c.args.after) Loose None = search rules in
    ap refusal c.ok_or-3.ensures.value ∙ follows.0 ∙ sym passed
