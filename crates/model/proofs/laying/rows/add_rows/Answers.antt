use Rattle.std.proofs.Common.{length, ap, arith}
use Rattle.graph.specs.View.{view}
use Rattle.event_set.specs.Sets.{has}
use Rattle.model.proofs.Rows.{one_row, all_rows}
use Rattle.model.proofs.laying.rows.add_rows.Goals as goal

pub loop-a-preserved : goal.loop-a-preserved
loop-a-preserved g c = λ r t.
    let a = c.loop-a.a in
    let many = ap length c.events-a-end.ensures.all_events_in_order in
    one_row r c.args.table.now _ _ a (has c.row.result) (t.told a c.row.result (omega (arith, many)) c.row.ensures) (c.loop-a.invariant r t) c.join_row.ensures.adds_just_those_pairs_of_a

pub returns : goal.returns
returns g c =
    let v = view c.args.graph.now in
    let many = ap length c.events-a-end.ensures.all_events_in_order in
    record { adds_exactly_the_rows = λ r t. all_rows r _ _ (length v.events) c.loop-a.a (omega (arith, many)) t.within (c.loop-a.invariant r t) }
