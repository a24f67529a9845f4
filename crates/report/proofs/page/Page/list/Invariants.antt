use Rattle.std.proofs.Common.{◌≡◌, ◌+◌, ◌*◌, drop}
use Rattle.report.specs.Reports.{lines_from}
use Rattle.report.proofs.Onward.{Left}
use Rattle.report.proofs.page.Page.list.Given as goal

abbrev pub invariant-loop-position : goal.invariant-loop-position
invariant-loop-position l = record {
  same : l.self.bytes.ghost_name ≡ l.initial.self.bytes.ghost_name;
  left : Left l.initial.self.at (lines_from l.letter l.number.number 0 l.events.numbers.now) l.initial.self.bytes.now l.self.at (lines_from l.letter l.number.number l.position (drop l.position l.events.numbers.now)) l.self.bytes.now;
  along : l.self.at ≡ l.initial.self.at + 14 * l.position;
}
