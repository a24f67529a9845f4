use Rattle.std.proofs.Common.{◌≡◌, map, length, replicate, None}
use Rattle.event.specs.Labels.{initial_write}
use Rattle.execution.specs.Lists.{upto}
use Rattle.sequence.specs.Sequences.{items}
use Rattle.graph.proofs.tables.Graph.new.Given as goal

abbrev pub invariant-loop-location : goal.invariant-loop-location
invariant-loop-location l = record {
  events : items l.events ≡ map initial_write (upto l.location);
  sources : items l.sources ≡ replicate l.location None;
  placed : items l.placed ≡ upto l.location;
  counts : (length (items l.events) ≡ l.location) × (length (items l.sources) ≡ l.location) × (length (items l.placed) ≡ l.location);
}
