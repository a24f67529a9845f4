use Rattle.std.proofs.Common.{◌≡◌, ◌+◌, ◌≤◌, cond, ltb, ◌++◌, length, get_or, drop, sym, ap, ◌∙◌, arith}
use Rattle.std.proofs.lemmas.Bool.{lt-ltb, le-ltb, cond-true, cond-false}
use Rattle.report.specs.declared.column.Column.{Column}
use Rattle.report.specs.Pages.{report_line}
use Rattle.report.specs.Flat.{orders_from}
use Rattle.report.proofs.Spelled.{columns_length}
use Rattle.report.proofs.Lengths.{cond_low}
use Rattle.report.proofs.Onward.{left_on, left_none, orders_next, orders_done}
use Rattle.report.proofs.page.Page.orders.Goals as goal
use Rattle.report.proofs.page.Page.orders.Goals.{Joined-event-locations, then-event-locations, else-event-locations}

pub loop-write-preserved : goal.loop-write-preserved
loop-write-preserved c =
    let xs = c.args.writes.numbers.now in
    let i = c.loop-write.write-index in
    let x = get_or xs i 0 in
    let n = c.args.locations in
    let location = c.if-event-locations.location in
    let position = c.if-event-locations.position in
    let here : c.of-event.result.number ≡ x = c.of-event.ensures ∙ c.from.ensures in
    -- an initial write begins the order of its location, and any other goes on with that at hand
    let now : (location.number ≡ cond (ltb x n) x c.loop-write.location.number) × (position ≡ cond (ltb x n) 0 c.loop-write.position) =
    elim c.if-event-locations.branch [
      | then-event-locations w ↦
          let yes = lt-ltb x n (omega (arith, w.if-event-locations.true)) in
          (ap (λ (a : Column). a.number) w.location-is ∙ here ∙ sym (cond-true (ltb x n) x c.loop-write.location.number yes), w.position-is ∙ sym (cond-true (ltb x n) 0 c.loop-write.position yes))
      | else-event-locations w ↦
          let no = le-ltb x n (omega (arith, w.if-event-locations.false)) in
          (ap (λ (a : Column). a.number) w.location-is ∙ sym (cond-false (ltb x n) x c.loop-write.location.number no), w.position-is ∙ sym (cond-false (ltb x n) 0 c.loop-write.position no))
    ] in
    let low : position ≤ i = omega (arith, now.1, cond_low (ltb x n) c.loop-write.position) in
    let text = report_line 77 location.number c.of.result.number c.of-event.result.number in
    let more = orders_from n location.number (position + 1) (drop (i + 1) xs) in
    let long : length text ≡ 14 = columns_length 77 location c.of.result c.of-event.result in
    let step = orders_next n c.loop-write.location.number c.loop-write.position i xs c.loop-write-test.true in
    let next : orders_from n c.loop-write.location.number c.loop-write.position (drop i xs) ≡ text ++ more = cc (now.0, now.1) in
    let room : c.loop-write.self.at + length text ≤ length c.loop-write.self.bytes.now = omega arith in
    record {
      same = cc;
      left = left_on c.args.self.now.at (orders_from n 0 0 xs) c.args.self.now.bytes.now c.loop-write.self.at text more _ c.loop-write.self.bytes.now _ _
          next c.loop-write.invariant.left c.line.ensures.written room;
      along = omega arith;
      low = omega (arith, low);
    }

pub returns-clause-written : goal.returns-clause-written
returns-clause-written c =
    left_none c.args.self.now.at (orders_from c.args.locations 0 0 c.args.writes.numbers.now) c.args.self.now.bytes.now c.loop-write.self.at _ c.loop-write.self.bytes.now
    (orders_done c.args.locations c.loop-write.location.number c.loop-write.position c.loop-write.write-index c.args.writes.numbers.now c.loop-write-test.false) c.loop-write.invariant.left
