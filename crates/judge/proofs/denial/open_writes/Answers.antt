use Rattle.std.proofs.Common.{ℕ, length, ap, ◌∙◌, arith, rules}
use borrow.Author.Tests.{tests}
use Rattle.std.proofs.lemmas.Iterator.{YieldsList-from_range}
use Rattle.std.proofs.lemmas.Iterator.Consumers.{YieldsList-from_filter, count_from_yields_List}
use Rattle.execution.specs.Content.{is_open}
use Rattle.graph.specs.View.{view}
use Rattle.verdict.specs.Numbers.{count}
use Rattle.judge.proofs.Counts.{range_counted}
use Rattle.judge.proofs.denial.open_writes.Goals as goal

pub returns : goal.returns
returns c =
    let p = is_open (view c.args.graph.now) in
    let n = length c.events.result.now in
    count_from_yields_List c.filter.result _ c.count.ensures.ran
    (YieldsList-from_filter _ p (YieldsList-from_range 0 n n c.filter.ensures.source (omega arith)) c.filter.ensures.closure (λ x b q k. search (rules, tests)))
    ∙ range_counted p n ∙ ap (λ (k : ℕ). count k p) (ap length c.events.ensures.all_events_in_order)
