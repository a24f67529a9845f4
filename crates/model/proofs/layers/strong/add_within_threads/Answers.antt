use Rattle.std.proofs.Common.{◌≡◌, ℕ, ◌+◌, ◌-◌, false, ◌||◌, eqb, length, sym, ap, ◌∙◌, subst, arith}
use Rattle.event.specs.declared.event.Event.{Event}
use Rattle.event.specs.Labels.{no_event}
use Rattle.execution.specs.Content.{thread_of, po}
use Rattle.graph.specs.View.{view}
use Rattle.graph.proofs.Soundness.{sound_of}
use Rattle.event_set.specs.Sets.{bit}
use Rattle.relation.specs.declared.table.Relation.{Relation}
use Rattle.relation.specs.Table.{holds}
use Rattle.model.specs.Layers.{has_thread, within_threads}
use Rattle.model.specs.Orders.{thread_order}
use Rattle.model.specs.Layered.{within_threads_grows, none_within_no_thread}
use Rattle.model.proofs.Places.{at_any}
use Rattle.model.proofs.Rows.{Rows, one_row, empty_row, all_rows, into_empty}
use Rattle.model.proofs.Threads.{initial_thread, own_row, no_own_row}
use Rattle.model.proofs.layers.strong.add_within_threads.Goals as goal
use Rattle.model.proofs.layers.strong.add_within_threads.Goals.{then-has_thread, else-has_thread}

pub returns-then-threads-eq0 : goal.returns-then-threads-eq0
returns-then-threads-eq0 c =
    let g = view c.args.graph.now in
    λ a b.
    let none : within_threads c.args.threads g a b ≡ false =
    subst (λ (n : ℕ). within_threads n g a b ≡ false) (sym c.if-threads-eq0.true) (none_within_no_thread g a b) in
    ap (λ x. x || holds c.args.table.now a b) (sym none)

pub loop-a-preserved : goal.loop-a-preserved
loop-a-preserved c =
    let g = view c.args.graph.now in
    let threads = c.args.threads in
    let entry = c.args.table.now in
    let a = c.loop-a.a in
    let t = thread_of g a in
    let r = within_threads threads g in
    let first = initial_thread g (sound_of c.args.graph.now) a in
    let order = into_empty (thread_order g) _ _ c.empty-order.ensures.holds_no_pair c.add_thread_order.ensures.adds_each_thread_by_number in
    let event = at_any c.events-event-items.result.now g.events a _ no_event c.events-event-items.ensures.all_events_in_order c.loop-a-test.true in
    let here : has_thread threads t ≡ c.has_thread.result = sym (c.has_thread.ensures ∙ ap (λ (e : Event). has_thread threads e.thread) event) in
    elim c.if-has_thread.branch [
      | then-has_thread w ↦
          let its = here ∙ w.if-has_thread.true in
          subst (λ (u : Relation). Rows r entry u (a + 1)) (sym w.table-is)
          (one_row r entry _ _ a _
          (λ y.
          w.row.ensures.has_just_the_seconds_of_a y ∙ order a y
          ∙ own_row (length g.events) g.locations a y t (thread_of g y) (bit threads (t - 1)) first its)
          c.loop-a.invariant w.join_row.ensures.adds_just_those_pairs_of_a)
      | else-has_thread w ↦
          let none = here ∙ w.if-has_thread.false in
          subst (λ (u : Relation). Rows r entry u (a + 1)) (sym w.table-is)
          (empty_row r entry _ a (λ y. no_own_row (po g a y) (eqb t (thread_of g y)) (has_thread threads t) none) c.loop-a.invariant)
    ]

pub returns : goal.returns
returns c =
    let g = view c.args.graph.now in
    let threads = c.args.threads in
    let all = (within_threads_grows threads).inside g (sound_of c.args.graph.now) in
    let many = ap length c.events-event-items.ensures.all_events_in_order in
    all_rows (within_threads threads g) _ _ (length g.events) c.loop-a.a (omega (arith, many)) (λ x y h. (all x y h).0) c.loop-a.invariant
