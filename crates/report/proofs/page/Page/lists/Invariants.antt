use Rattle.std.proofs.Common.{◌≡◌, ◌+◌, ◌-◌, ◌*◌, ◌≤◌, length}
use Rattle.report.specs.Reports.{lists_from}
use Rattle.report.specs.Flat.{cut}
use Rattle.report.proofs.Onward.{Left}
use Rattle.report.proofs.page.Page.lists.Given as goal

abbrev pub invariant-loop-order : goal.invariant-loop-order
invariant-loop-order l = record {
  same : l.self.bytes.ghost_name ≡ l.initial.self.bytes.ghost_name;
  left : Left l.initial.self.at (lists_from 79 0 (cut l.fn.orders.number l.events l.row.numbers.now)) l.initial.self.bytes.now l.self.at (lists_from 79 l.order (cut (l.fn.orders.number - l.order) l.events l.rest.numbers.now)) l.self.bytes.now;
  along : l.self.at + 14 * ((l.fn.orders.number - l.order) * l.events) ≡ l.initial.self.at + 14 * (l.fn.orders.number * l.events);
  there : (l.fn.orders.number - l.order) * l.events ≤ length l.rest.numbers.now;
}
