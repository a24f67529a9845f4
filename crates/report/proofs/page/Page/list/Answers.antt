use Rattle.std.proofs.Common.{◌≡◌, ℕ, ◌+◌, ◌≤◌, List, ◌++◌, length, get_or, drop, ap, ◌∙◌, arith}
use Rattle.report.specs.Pages.{report_line}
use Rattle.report.specs.Reports.{lines_from}
use Rattle.report.proofs.Spelled.{columns_length}
use Rattle.report.proofs.Onward.{left_on, left_none, lines_next, lines_done}
use Rattle.report.proofs.page.Page.list.Goals as goal

pub loop-position-preserved : goal.loop-position-preserved
loop-position-preserved c =
    let xs = c.args.events.numbers.now in
    let i = c.loop-position.position in
    let letter = c.args.letter in
    let number = c.args.number.number in
    let text = report_line letter number c.of.result.number c.of-event.result.number in
    let rest = lines_from letter number (i + 1) (drop (i + 1) xs) in
    let is : report_line letter number i (get_or xs i 0) ≡ text = cc in
    let long : length text ≡ 14 = columns_length letter c.args.number c.of.result c.of-event.result in
    let room : c.loop-position.self.at + length text ≤ length c.loop-position.self.bytes.now = omega arith in
    record {
      same = cc;
      left = left_on c.args.self.now.at (lines_from letter number 0 xs) c.args.self.now.bytes.now c.loop-position.self.at text rest _ c.loop-position.self.bytes.now _ _
          (lines_next letter number i xs c.loop-position-test.true ∙ ap (λ (t : List ℕ). t ++ rest) is) c.loop-position.invariant.left c.line.ensures.written room;
      along = omega arith;
    }

pub returns-clause-written : goal.returns-clause-written
returns-clause-written c =
    left_none c.args.self.now.at (lines_from c.args.letter c.args.number.number 0 c.args.events.numbers.now) c.args.self.now.bytes.now c.loop-position.self.at _ c.loop-position.self.bytes.now
    (lines_done c.args.letter c.args.number.number c.loop-position.position c.args.events.numbers.now c.loop-position-test.false) c.loop-position.invariant.left
