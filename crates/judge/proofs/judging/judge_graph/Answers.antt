use Rattle.std.proofs.Common.{ℕ, List, Ok, Err, Result, sym, ap, ◌∙◌, subst, subst₂}
use Rattle.std.proofs.lemmas.Result.{err_from_is_err_and}
use Rattle.event.specs.declared.denial.Denial.{Denial}
use Rattle.graph.specs.View.{view}
use Rattle.relation.specs.Sequences.{events}
use Rattle.sequence.specs.Sequences.{items}
use Rattle.verdict.specs.declared.verdict.Verdict.{Verdict}
use Rattle.verdict.specs.declared.verdict.Verdict.TheVariants.{Cycle as has_cycle}
use Rattle.verdict.specs.Answers.{laid}
use Rattle.verdict.specs.Judging.{Judged}
use Rattle.verdict.specs.States.{as_open}
use Rattle.verdict.proofs.Outcomes.{judged_cyclic, judged_denied, judged_no_placement}
use Rattle.judge.proofs.Judgements.{allowed_as_shown}
use Rattle.judge.proofs.judging.judge_graph.Goals as goal

pub returns-in_err-check_judge : goal.returns-in_err-check_judge
returns-in_err-check_judge g c =
    let m = g.M.Model.meaning c.args.model.now in
    let s = as_open (view c.args.graph.now) in
    let before = c.args.sheet.now in
    let e = err_from_is_err_and c.from_residual.result c.from_residual.ensures.1 in
    subst (λ (r : Result Verdict Denial). Judged m s before r before) (sym (e.1 ∙ ap (λ (d : Denial). Err d) e.2))
    (judged_denied m s before _ (sym c.in_err-check_judge.ensures.first_test_that_fails))

pub returns-in-Some : goal.returns-in-Some
returns-in-Some g c =
    let m = g.M.Model.meaning c.args.model.now in
    let s = as_open (view c.args.graph.now) in
    let before = c.args.sheet.now in
    let xs = events c.in-Some.cycle in
    let found = c.in-Some.ensures in
    subst₂ (λ (n : ℕ) (after : List ℕ). Judged m s before (Ok (has_cycle c.in-Some.order n)) after) (sym c.len.ensures.counts_the_items)
    (sym (c.write.ensures ∙ ap (λ (zs : List ℕ). laid zs before) c.as_slice.ensures.is_the_items_in_order))
    (judged_cyclic m s before (sym c.in_ok-check_judge.ensures.first_test_that_fails) c.in-Some.order xs found.0 found.2 found.1)

pub returns-in-Some-allowed : goal.returns-in-Some-allowed
returns-in-Some-allowed g c =
    let before = c.args.sheet.now in
    allowed_as_shown (g.M.Model.meaning c.args.model.now) (as_open (view c.args.graph.now)) before (sym c.in_ok-check_judge.ensures.first_test_that_fails) (items c.in-Some-allowed.shown) _
    c.in-Some-allowed.ensures (c.write-in-Some-allowed.ensures ∙ ap (λ (zs : List ℕ). laid zs before) c.as_slice-in-Some-allowed.ensures.is_the_items_in_order)

pub returns-in-None : goal.returns-in-None
returns-in-None g c =
    judged_no_placement (g.M.Model.meaning c.args.model.now) (as_open (view c.args.graph.now)) c.args.sheet.now (sym c.in_ok-check_judge.ensures.first_test_that_fails)
    c.in_default.ensures c.in-None.ensures
