use Rattle.std.proofs.Common.{ℕ, List, length, filter, take, sym, ap, length-append, arith}
use Rattle.std.proofs.lemmas.Result.{err_from_is_err_and}
use Rattle.std.proofs.lemmas.Bool.{ltb-false}
use Rattle.graph.specs.View.{view}
use Rattle.sequence.specs.Sequences.{items}
use Rattle.verdict.specs.Shown.{modification_order}
use Rattle.judge.specs.Sheets.{at_location}
use Rattle.judge.proofs.Orders.{no_room}
use Rattle.judge.proofs.Lists.{kept_room}
use Rattle.judge.proofs.showing.add_modification_order.Goals as goal

pub returns-in_err-push : goal.returns-in_err-push
returns-in_err-push c =
    let p = at_location (view c.args.graph.now) c.args.location in
    let xs = c.placed-write-items.result.now in
    let e = err_from_is_err_and c.from_residual.result c.from_residual.ensures.1 in
    let all = ap (λ (zs : List ℕ). length (filter p zs)) c.placed-write-items.ensures.placed_writes_in_order in
    let some = kept_room p xs c.loop-write.write-index c.loop-write-test.true (sym c.if-accesses.ensures) in
    let full = ltb-false _ _ (sym c.in_err-push.ensures.done_exactly_where_there_is_room) in
    no_room (modification_order (view c.args.graph.now) c.args.location) (items c.args.shown.now) (items c.push.new.self) c.from_residual.result e.0 e.1
    (omega (arith, all, some, full, ap length c.loop-write.invariant, length-append (items c.args.shown.now) (filter p (take c.loop-write.write-index xs))))
