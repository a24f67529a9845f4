use Rattle.std.proofs.Common.{◌≡◌, List, ◌++◌, length}
use Rattle.std.specs.Iterator.Adapters.{rev_source, enumerate_source, enumerate_count}
use Rattle.std.specs.Slice.Iter.{iter_rest}
use Rattle.event.specs.declared.event.Event.{Event}
use Rattle.graph.specs.View.{view}
use Rattle.model.proofs.Sweeps.{ThreadsFrom}
use Rattle.model.proofs.laying.program_order.add_thread_order.Given as goal

-- the events that are left, and those that are joined
abbrev pub invariant-loop-a : goal.invariant-loop-a
invariant-loop-a l =
    (done : List Event)
    × ((view l.graph).events ≡ iter_rest (enumerate_source (rev_source l.a-iterator)) ++ done)
    × (enumerate_count (rev_source l.a-iterator) ≡ 0)
    × ThreadsFrom (view l.graph) l.initial.table (length (iter_rest (enumerate_source (rev_source l.a-iterator)))) l.table l.later
