use Rattle.std.proofs.Common.{◌≡◌, ◌+◌, ◌*◌, ◌≤◌, drop}
use Rattle.report.specs.Flat.{orders_from}
use Rattle.report.proofs.Onward.{Left}
use Rattle.report.proofs.page.Page.orders.Given as goal

abbrev pub invariant-loop-write : goal.invariant-loop-write
invariant-loop-write l = record {
  same : l.self.bytes.ghost_name ≡ l.initial.self.bytes.ghost_name;
  left : Left l.initial.self.at (orders_from l.locations 0 0 l.writes.numbers.now) l.initial.self.bytes.now l.self.at (orders_from l.locations l.location.number l.position (drop l.write-index l.writes.numbers.now)) l.self.bytes.now;
  along : l.self.at ≡ l.initial.self.at + 14 * l.write-index;
  low : l.position ≤ l.write-index;
}
