use Rattle.std.proofs.Common.{ℕ, ◌≤◌, List, ◌++◌, length, sym, ap, ◌∙◌, arith}
use Rattle.graph.specs.View.{view}
use Rattle.graph.proofs.Soundness.{sound_of}
use Rattle.relation.specs.Sequences.{events}
use Rattle.sequence.specs.Sequences.{items}
use Rattle.judge.proofs.Orders.{not_among, listing_by_table, none_by, added, not_added}
use Rattle.judge.proofs.Lists.{lists_more}
use Rattle.judge.proofs.under.Under.lists.Goals as goal

pub returns-in_err-list : goal.returns-in_err-list
returns-in_err-list g c =
    let r = (g.M.Model.meaning c.args.self.now.model.now).pairs (view c.args.self.now.graph.now) in
    let k = c.loop-order.order in
    none_by _ c.from_residual.result c.from_residual.ensures (λ serves. not_among (r k) c.table_of.result c.table_of.ensures.has_exactly_the_pairs _
    c.in_err-list.ensures.none_exactly_when_they_have_a_cycle (serves k (omega (arith, c.loop-order-test.true, c.orders-order-end.ensures.as_many_as_it_means))))

pub returns-in_err-ok : goal.returns-in_err-ok
returns-in_err-ok g c =
    let few = (g.met.M.Model.rules c.args.self.now.model.now).few.1 in
    let full = not_added c.as_slice.result.now (items c.loop-order.shown) (items c.add.new.shown) c.add.result (sym c.ok.ensures.value ∙ c.in_err-ok.was) c.add.ensures in
    none_by _ c.from_residual-in_err-ok.result c.from_residual-in_err-ok.ensures (λ serves. absurd (omega (
      arith,
      few,
      full,
      c.loop-order.invariant.few,
      c.loop-order-test.true,
      c.orders-order-end.ensures.as_many_as_it_means,
      ap length c.as_slice.ensures.is_the_items_in_order,
      c.in_ok-list.ensures.the_list_has_each_event_once,
    )))

pub loop-order-preserved : goal.loop-order-preserved
loop-order-preserved g c =
    let m = g.M.Model.meaning c.args.self.now.model.now in
    let h = view c.args.self.now.graph.now in
    let k = c.loop-order.order in
    let xs = events c.in_ok-list.list in
    let many = ap length c.events.ensures.all_events_in_order in
    let fits : length c.events.result.now ≤ 256 = omega (arith, many, (sound_of c.args.self.now.graph.now).few_events) in
    let listed = listing_by_table (m.pairs h k) c.table_of.result c.table_of.ensures.has_exactly_the_pairs (length c.events.result.now) (length h.events) xs
    many fits c.in_ok-list.ensures.else_each_is_the_lowest_that_is_ready in
    let now = added c.as_slice.result.now (items c.loop-order.shown) (items c.add.new.shown) c.add.result c.in_ok-ok.field-0 (sym c.ok.ensures.value ∙ c.in_ok-ok.was) c.add.ensures in
    lists_more m h k xs (items c.loop-order.shown) (items c.add.new.shown) c.loop-order.invariant listed (omega (arith, c.in_ok-list.ensures.the_list_has_each_event_once))
    (now ∙ ap (λ (zs : List ℕ). items c.loop-order.shown ++ zs) c.as_slice.ensures.is_the_items_in_order)
