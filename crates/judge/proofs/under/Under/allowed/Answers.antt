use Rattle.graph.specs.View.{view}
use Rattle.judge.proofs.Orders.{none_by}
use Rattle.judge.proofs.Judgements.{allowed_by}
use Rattle.judge.proofs.under.Under.allowed.Goals as goal

pub returns-in_err-full : goal.returns-in_err-full
returns-in_err-full g c = none_by _ c.from_residual.result c.from_residual.ensures c.in_err-full.ensures.the_first_that_serves_or_none_exactly_when_none_does

pub returns : goal.returns
returns g c = allowed_by (g.M.Model.meaning c.args.self.now.model.now) (view c.args.self.now.graph.now) (view c.in_ok-full.full)
    c.in_ok-full.ensures.the_first_that_serves_or_none_exactly_when_none_does c.shown.result c.shown.ensures
