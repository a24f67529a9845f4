use Rattle.std.proofs.Common.{◌≡◌, ℕ, ◌*◌, ◌≤◌, List, ◌++◌, length, take, sym, ap, ◌∙◌, subst, subst₂, arith, rules}
use Rattle.graph.specs.View.{view}
use Rattle.graph.proofs.Soundness.{sound_of}
use Rattle.verdict.specs.declared.verdict.Verdict.{Verdict}
use Rattle.verdict.specs.declared.verdict.Verdict.TheVariants.{Allowed as is_allowed, Cycle as has_cycle, NoPlacement as has_no_placement}
use Rattle.report.specs.Pages.{report_line}
use Rattle.report.specs.Texts.{Written}
use Rattle.report.specs.Reports.{lines_from, lists_from, writes, open_writes, report}
use Rattle.report.specs.Flat.{cut, orders_from, cycle_length, from_sheet}
use Rattle.report.proofs.Spelled.{columns_length}
use Rattle.report.proofs.Lengths.{lists_few, row_listable, cut_lines}
use Rattle.report.proofs.Onward.{written_on}
use Rattle.report.proofs.Cutting.{sheet_parts}
use Rattle.report.proofs.Counting.{placed_and_open}
use Rattle.report.proofs.verdicts.report.Goals as goal
use Rattle.report.proofs.verdicts.report.Goals.{After-line, After-lists}

-- the first line, and how many events the lists have
head_length : (c : After-line) → c.line.new.self.at ≡ 14
head_length c = omega (arith, columns_length 65 c.of-orders.result c.of-events.result c.of-writes.result)

few_listed : (c : After-line) → c.of-orders.result.number * c.of-events.result.number ≤ 1024
few_listed c =
    lists_few c.of-orders.result.number c.of-events.result.number (omega (arith, c.requires.few))
    (omega (arith, ap length c.events.ensures.all_events_in_order, (sound_of c.args.graph.now).few_events))

pub lists-requires-clause-room : goal.lists-requires-clause-room
lists-requires-clause-room c =
    omega (arith, head_length (goal.at.lists-requires-clause-room c).After-line, few_listed (goal.at.lists-requires-clause-room c).After-line)

-- the O lines
lists_long : (c : After-lists) → length (lists_from 79 0 (cut c.of-orders.result.number c.of-events.result.number c.split_at.result.0.numbers.now)) ≤ 14 * length c.split_at.result.0.numbers.now
lists_long c = cut_lines c.of-orders.result.number c.of-events.result.number c.split_at.result.0.numbers.now (omega arith) (row_listable c.split_at.result.0)

listed : (c : After-line) → length c.split_at.result.0.numbers.now ≤ 1024
listed c = omega (arith, few_listed c, ap (λ (k : ℕ). k * c.of-events.result.number) c.of-orders.ensures)

pub orders-requires : goal.orders-requires
orders-requires c = record {
  room = omega (arith, head_length (goal.at.orders-requires c).After-line, listed (goal.at.orders-requires c).After-line, lists_long (goal.at.orders-requires c).After-lists);
}

pub list-requires : goal.list-requires
list-requires c = record {
  room = omega (arith, columns_length 88 c.of-order.result c.of.result c.of-events.result, subst (λ (v : Verdict). cycle_length v ≤ 1280) c.in-Cycle.is c.requires.cycle_fits);
}

pub overflow_sub-writes : goal.overflow_sub-writes
overflow_sub-writes c =
    omega (arith, placed_and_open (view c.args.graph.now) (sound_of c.args.graph.now), c.writes_of.ensures.counted, ap length c.placed.ensures.placed_writes_in_order)

pub returns-in-Allowed : goal.returns-in-Allowed
returns-in-Allowed c =
    let g = view c.args.graph.now in
    let k = c.args.orders in
    let n = c.of-events.result.number in
    let w = c.of-writes.result.number in
    let before = c.args.page.now in
    let after = c.orders.new.self in
    let sheet = c.args.sheet.numbers.now in
    let front = c.split_at.result.0.numbers.now in
    let row = c.split_at-in-Allowed.result.0.numbers.now in
    let head = report_line 65 c.of-orders.result.number n w in
    let lists = lists_from 79 0 (cut c.of-orders.result.number n front) in
    let orders = orders_from c.locations.result 0 0 row in
    let long = columns_length 65 c.of-orders.result c.of-events.result c.of-writes.result in
    let few = listed (goal.at.returns-in-Allowed c).After-line in
    let lists-long = lists_long (goal.at.returns-in-Allowed c).After-lists in
    let parts = sheet_parts g k n w c.locations.result sheet front row
    (c.of-events.ensures ∙ ap length c.events.ensures.all_events_in_order) (c.of-writes.ensures ∙ c.writes_of.ensures.counted) c.locations.ensures.its_locations c.split_at.ensures.front
    (c.split_at-in-Allowed.ensures.front ∙ ap (take w) c.split_at.ensures.back) in
    let same : head ++ (lists ++ orders) ≡ from_sheet g is_allowed k sheet = cc in
    let behind = written_on c.line.new.self.at lists orders c.line.new.self.bytes.now _ _ _ _ c.lists.ensures.written c.orders.ensures.written (omega (arith, c.line.new.self.long)) in
    let all = written_on 0 head (lists ++ orders) before _ _ _ _ c.line.ensures.written behind (omega arith) in
    let text = same ∙ ap (λ (v : Verdict). from_sheet g v k sheet) (sym c.in-Allowed.is) in
    subst₂ (λ (text page : List ℕ). Written 0 text before after.at page) text (search rules) all

pub returns-in-Cycle : goal.returns-in-Cycle
unfolding from_sheet report
returns-in-Cycle c =
    let g = view c.args.graph.now in
    let k = c.in-Cycle.order in
    let n = c.in-Cycle.length in
    let before = c.args.page.now in
    let sheet = c.args.sheet.numbers.now in
    let cycle = c.split_at-in-Cycle.result.0.numbers.now in
    let head = report_line 88 c.of-order.result.number c.of.result.number c.of-events.result.number in
    let lines = lines_from 67 c.of-order.result.number 0 cycle in
    let long = columns_length 88 c.of-order.result c.of.result c.of-events.result in
    let events : c.of-events.result.number ≡ length g.events = c.of-events.ensures ∙ ap length c.events.ensures.all_events_in_order in
    let shown : cycle ≡ take n sheet = c.split_at-in-Cycle.ensures.front in
    let count : c.of.result.number ≡ length (take n sheet) = search rules in
    let order : c.of-order.result.number ≡ k = search rules in
    let same : head ++ lines ≡ from_sheet g (has_cycle k n) c.args.orders sheet = cc in
    let all = written_on 0 head lines before _ _ _ _ c.line-in-Cycle.ensures.written c.list.ensures.written (omega arith) in
    let text = same ∙ ap (λ (v : Verdict). from_sheet g v c.args.orders sheet) (sym c.in-Cycle.is) in
    subst₂ (λ (text page : List ℕ). Written 0 text before c.list.new.self.at page) text (search rules) all

pub returns-in-NoPlacement : goal.returns-in-NoPlacement
unfolding from_sheet report
returns-in-NoPlacement c =
    let g = view c.args.graph.now in
    let left : c.of-open.result.number ≡ open_writes g =
    omega (arith, placed_and_open g (sound_of c.args.graph.now), c.writes_of.ensures.counted, ap length c.placed.ensures.placed_writes_in_order) in
    let events : c.of-events.result.number ≡ length g.events = c.of-events.ensures ∙ ap length c.events.ensures.all_events_in_order in
    let written : c.of-writes.result.number ≡ writes g = c.of-writes.ensures ∙ c.writes_of.ensures.counted in
    let same : report_line 78 c.of-open.result.number c.of-events.result.number c.of-writes.result.number ≡ from_sheet g has_no_placement c.args.orders c.args.sheet.numbers.now = cc in
    let text = same ∙ ap (λ (v : Verdict). from_sheet g v c.args.orders c.args.sheet.numbers.now) (sym c.in-NoPlacement.is) in
    subst₂ (λ (text page : List ℕ). Written 0 text c.args.page.now c.line-in-NoPlacement.new.self.at page) text (search rules) c.line-in-NoPlacement.ensures.written
