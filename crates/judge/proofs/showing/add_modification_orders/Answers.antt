use Rattle.std.proofs.Common.{ℕ, ◌<◌, List, ◌++◌, length, sym, ap, ◌∙◌, append_assoc, length-append, arith}
use Rattle.std.proofs.lemmas.Result.{err_from_is_err_and}
use Rattle.graph.specs.View.{view}
use Rattle.sequence.specs.Sequences.{items}
use Rattle.verdict.specs.Answers.{joined}
use Rattle.verdict.specs.Shown.{modification_order, modification_orders}
use Rattle.judge.proofs.Orders.{no_room}
use Rattle.judge.proofs.Lists.{first_of, first_more, first_bound}
use Rattle.judge.proofs.showing.add_modification_orders.Goals as goal

pub returns-in_err-add_modification_order : goal.returns-in_err-add_modification_order
returns-in_err-add_modification_order c =
    let h = view c.args.graph.now in
    let f = modification_order h in
    let k = c.loop-location.location in
    let e = err_from_is_err_and c.from_residual.result c.from_residual.ensures.1 in
    let below : k < h.locations = omega (arith, c.loop-location-test.true, c.locations-location-end.ensures.its_locations) in
    no_room (joined (modification_orders h)) (items c.args.shown.now) (items c.add_modification_order.new.shown) c.from_residual.result e.0 e.1
    (omega (arith, c.in_err-add_modification_order.ensures, first_bound f h.locations k below, ap length c.loop-location.invariant, length-append (items c.args.shown.now) (first_of f k)))

pub loop-location-preserved : goal.loop-location-preserved
loop-location-preserved c =
    let f = modification_order (view c.args.graph.now) in
    let k = c.loop-location.location in
    let before = items c.args.shown.now in
    c.in_ok-add_modification_order.ensures ∙ ap (λ (zs : List ℕ). zs ++ f k) c.loop-location.invariant
    ∙ append_assoc before (first_of f k) (f k) ∙ ap (λ (zs : List ℕ). before ++ zs) (sym (first_more f k))
