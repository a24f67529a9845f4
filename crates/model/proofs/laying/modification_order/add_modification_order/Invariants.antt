use Rattle.std.proofs.Common.{◌≡◌, ℕ, List, ◌++◌}
use Rattle.std.specs.Iterator.Adapters.{rev_source}
use Rattle.std.specs.Slice.Iter.{iter_rest}
use Rattle.graph.specs.View.{view}
use Rattle.model.proofs.Sweeps.{Writes}
use Rattle.model.proofs.laying.modification_order.add_modification_order.Given as goal

-- the writes that are left, and those that are joined
abbrev pub invariant-loop-write : goal.invariant-loop-write
invariant-loop-write l = (done : List ℕ) × ((view l.graph).placed ≡ iter_rest (rev_source l.write-iterator) ++ done) × Writes (view l.graph) l.initial.table done l.table l.later
