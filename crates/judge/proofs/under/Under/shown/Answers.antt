use Rattle.std.proofs.Common.{sym, ◌∙◌, arith}
use Rattle.graph.specs.View.{view}
use Rattle.graph.proofs.Soundness.{sound_of}
use Rattle.sequence.specs.Sequences.{items}
use Rattle.verdict.specs.Answers.{joined}
use Rattle.verdict.specs.Shown.{modification_orders}
use Rattle.verdict.proofs.Fitting.{orders_bound}
use Rattle.judge.proofs.Orders.{none_by, not_added}
use Rattle.judge.proofs.under.Under.shown.Goals as goal

pub returns-in_err-ok : goal.returns-in_err-ok
returns-in_err-ok g c =
    let h = view c.args.self.now.graph.now in
    let few = (g.met.M.Model.rules c.args.self.now.model.now).few.1 in
    let full = not_added (joined (modification_orders h)) (items c.in_ok-shown.shown) (items c.add_modification_orders.new.shown) c.add_modification_orders.result (sym c.ok.ensures.value ∙ c.in_err-ok.was) c.add_modification_orders.ensures in
    none_by _ c.from_residual-in_err-ok.result c.from_residual-in_err-ok.ensures (λ serves. absurd (omega (arith, few, full, c.in_ok-shown.ensures.few, orders_bound h (sound_of c.args.self.now.graph.now))))
