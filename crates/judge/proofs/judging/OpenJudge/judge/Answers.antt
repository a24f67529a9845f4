use Rattle.std.proofs.Common.{subst}
use Rattle.graph.specs.declared.tables.Graph.{Graph}
use Rattle.graph.specs.View.{view}
use Rattle.verdict.specs.Judging.{Judged}
use Rattle.verdict.specs.States.{as_open}
use Rattle.verdict.proofs.Runs.{calls_carry_on}
use Rattle.verdict.proofs.Unique.{one_verdict}
use Rattle.judge.proofs.judging.OpenJudge.judge.Goals as goal

pub returns : goal.returns
returns g c =
    let x = c.args.model.now in
    let m = g.M.Model.meaning x in
    record {
      judged_rightly_and_the_law_holds_of_every_run_that_makes_this_graph =
          calls_carry_on.judges m (g.met.M.Model.rules x) _ c.args.sheet.now _ _
          (subst (λ (it : Graph). Judged m (as_open (view it)) c.args.sheet.now c.judge_graph.result c.judge_graph.new.sheet) c.graph.ensures.its_graph c.judge_graph.ensures);
      no_other_result_or_sheet_is_right = one_verdict;
    }
