use Rattle.std.proofs.Common.{◌&&◌, T, length, refl, ap, arith, rules}
use borrow.Author.Tests.{tests}
use Rattle.std.proofs.lemmas.Iterator.{YieldsList-from_range, cases_from_any}
use Rattle.event.specs.Labels.{location}
use Rattle.execution.specs.Content.{label_of, is_open}
use Rattle.graph.specs.View.{view}
use Rattle.graph.proofs.Soundness.{sound_of}
use Rattle.judge.specs.Widths.{crowded}
use Rattle.judge.proofs.Widths.{wide_tells}
use Rattle.judge.proofs.denial.has_wide_location.Goals as goal

pub returns : goal.returns
returns c =
    let g = view c.args.graph.now in
    let n = length c.events.result.now in
    wide_tells g (sound_of c.args.graph.now) n (ap length c.events.ensures.all_events_in_order) c.any.result
    (cases_from_any _ _ _ (λ w. T (is_open g w && crowded g (location (label_of g w)))) (λ w. T (is_open g w && crowded g (location (label_of g w))) → ⊥) c.any.ensures.ran
    (YieldsList-from_range 0 n n refl (omega arith)) (λ x q k. search (rules, tests)) (λ x q k. search (rules, tests)))
