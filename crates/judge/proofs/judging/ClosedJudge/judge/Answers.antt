use Rattle.std.proofs.Common.{Err, Result, sym, ap, ◌∙◌, subst}
use Rattle.std.proofs.lemmas.Result.{err_from_is_err_and}
use Rattle.event.specs.declared.denial.Denial.{Denial}
use Rattle.graph.specs.declared.tables.Graph.{Graph}
use Rattle.graph.specs.View.{view}
use Rattle.verdict.specs.declared.verdict.Verdict.{Verdict}
use Rattle.verdict.specs.Judging.{Judged}
use Rattle.verdict.specs.States.{as_closed}
use Rattle.verdict.proofs.Runs.{calls_carry_on}
use Rattle.verdict.proofs.Unique.{one_verdict}
use Rattle.judge.proofs.Judgements.{closed_denied, judged_closed}
use Rattle.judge.proofs.judging.ClosedJudge.judge.Goals as goal

pub returns-in_err-check_links : goal.returns-in_err-check_links
returns-in_err-check_links g c =
    let x = c.args.model.now in
    let m = g.M.Model.meaning x in
    let before = c.args.sheet.now in
    let e = err_from_is_err_and c.from_residual.result c.from_residual.ensures.1 in
    let denied = closed_denied m (view c.graph-graph.result.now) before _ (sym c.in_err-check_links.ensures) in
    record {
      judged_rightly_and_the_law_holds_of_every_run_that_makes_this_graph =
          calls_carry_on.judges m (g.met.M.Model.rules x) _ before _ before
          (subst (λ (r : Result Verdict Denial). Judged m (as_closed (view c.args.self.now.graph)) before r before) (sym (e.1 ∙ ap (λ (d : Denial). Err d) e.2))
          (subst (λ (it : Graph). Judged m (as_closed (view it)) before (Err c.in_err-check_links.field-0.0) before) c.graph-graph.ensures.its_graph denied));
      no_other_result_or_sheet_is_right = one_verdict;
    }

pub returns : goal.returns
returns g c =
    let x = c.args.model.now in
    let m = g.M.Model.meaning x in
    let before = c.args.sheet.now in
    record {
      judged_rightly_and_the_law_holds_of_every_run_that_makes_this_graph =
          calls_carry_on.judges m (g.met.M.Model.rules x) _ before _ _
          (subst (λ (it : Graph). Judged m (as_closed (view it)) before c.judge_graph.result c.judge_graph.new.sheet) c.graph-graph.ensures.its_graph
          (judged_closed m (view c.graph-graph.result.now) before c.judge_graph.result c.judge_graph.new.sheet (sym c.in_ok-check_links.ensures) c.judge_graph.ensures));
      no_other_result_or_sheet_is_right = one_verdict;
    }
