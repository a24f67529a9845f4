use Rattle.graph.specs.View.{of_closed}
use Rattle.graph.proofs.Soundness.{sound_of}
use Rattle.consistency.proofs.Agreed.{agreed}
use Rattle.consistency.proofs.judge_by.Goals as goal

pub returns : goal.returns
returns c =
    let lawful = c.judge.ensures.judged_rightly_and_the_law_holds_of_every_run_that_makes_this_graph in
    record {
      judged_with_the_law_over_all_dealings = lawful;
      allowed_exactly_when_some_modification_order_makes_it_consistent = agreed c.args.board (of_closed c.args.graph.now) (sound_of c.args.graph.now.graph) c.args.sheet.now c.judge.new.sheet c.judge.result lawful.judged;
    }
