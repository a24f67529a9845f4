use Rattle.std.proofs.Common.{◌≡◌, ℕ, suc, ◌+◌, ◌-◌, ◌*◌, ◌<◌, ◌++◌, length, ap, ◌∙◌, suc-mul, arith}
use Rattle.report.specs.Reports.{lines_from, lists_from}
use Rattle.report.specs.Flat.{cut}
use Rattle.report.proofs.Lengths.{lines_length, row_listable}
use Rattle.report.proofs.Onward.{left_on, left_none, lists_next, lists_done}
use Rattle.report.proofs.page.Page.lists.Goals as goal

-- one list less is left
one_less : (k i n : ℕ) → i < k → (k - i) * n ≡ (k - (i + 1)) * n + n
one_less k i n l =
    let less : k - i ≡ suc (k - (i + 1)) = omega arith in
    ap (λ (j : ℕ). j * n) less ∙ suc-mul (k - (i + 1)) n

pub loop-order-preserved : goal.loop-order-preserved
loop-order-preserved c =
    let k = c.args.orders.number in
    let i = c.loop-order.order in
    let n = c.args.events in
    let r = k - (i + 1) in
    let less = one_less k i n c.loop-order-test.true in
    let list = c.split_at.result.0 in
    let whole = lists_from 79 0 (cut k n c.args.row.numbers.now) in
    let text = lines_from 79 c.of.result.number 0 list.numbers.now in
    let more = lists_from 79 (i + 1) (cut r n c.split_at.result.1.numbers.now) in
    let listable = row_listable list in
    let long : length text ≡ 14 * length list.numbers.now = lines_length 79 c.of.result.number 0 list.numbers.now c.of.result.fits (omega (arith, listable.few)) listable.each in
    let left_over : k - i ≡ suc r = omega arith in
    let step = lists_next 79 i (k - i) r n c.loop-order.rest.numbers.now left_over in
    let next : lists_from 79 i (cut (k - i) n c.loop-order.rest.numbers.now) ≡ text ++ more = cc in
    record {
      same = cc;
      left = left_on c.args.self.now.at whole c.args.self.now.bytes.now c.loop-order.self.at text more _ c.loop-order.self.bytes.now _ _
          next c.loop-order.invariant.left c.list.ensures.written (omega arith);
      along = omega arith;
      there = omega arith;
    }

pub returns-clause-written : goal.returns-clause-written
returns-clause-written c =
    left_none c.args.self.now.at (lists_from 79 0 (cut c.args.orders.number c.args.events c.args.row.numbers.now)) c.args.self.now.bytes.now c.loop-order.self.at _ c.loop-order.self.bytes.now
    (lists_done 79 c.loop-order.order (c.args.orders.number - c.loop-order.order) c.args.events c.loop-order.rest.numbers.now (omega arith))
    c.loop-order.invariant.left
