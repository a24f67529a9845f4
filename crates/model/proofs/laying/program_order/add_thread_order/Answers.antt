use Rattle.std.proofs.Common.{◌≡◌, ℕ, ◌<◌, [], ◌∷◌, ◌++◌, length, get_or, sym, ap, ◌∙◌, subst, arith, rules, append-nil, length-append}
use Rattle.std.specs.Iterator.Adapters.{rev_source, enumerate_source}
use Rattle.std.specs.Slice.Iter.{iter_rest}
use Rattle.event.specs.declared.event.Event.{Event}
use Rattle.event.specs.Labels.{no_event}
use Rattle.sequence.proofs.Fits.{items_fit}
use Rattle.graph.specs.View.{view}
use Rattle.model.proofs.Sweeps.{ThreadsFrom, threads_none, thread_turn, taken_back, taken_at}
use Rattle.model.proofs.laying.program_order.add_thread_order.Goals as goal
use Rattle.model.proofs.laying.program_order.add_thread_order.Goals.{In-Some}

pub loop-a-init : goal.loop-a-init
loop-a-init c =
    let g = view c.args.graph.now in
    let all : iter_rest (enumerate_source (rev_source c.into_iter-a-iterator.result)) ≡ g.events = search rules in (
      [],
      sym (append-nil _ ∙ all),
      search rules,
      threads_none g _ _ _ (ap length all) c.empty-later.ensures.holds_no_pair,
    )

-- the events that are left, with this one
its_place : (c : In-Some) → (view c.args.graph.now).events ≡ iter_rest (enumerate_source (rev_source c.next.new.self)) ++ (c.in-Some.event.now ∷ c.loop-a.invariant.0)
its_place c = taken_back _ _ _ _ _ c.loop-a.invariant.1 c.in-Some.ensures.steps.1.0

its_number : (c : In-Some) → c.in-Some.a ≡ length (iter_rest (enumerate_source (rev_source c.next.new.self)))
its_number c = omega (arith, c.in-Some.ensures.steps.1.1, c.loop-a.invariant.2)

fits : (c : In-Some) → c.in-Some.a < 256
fits c = omega (arith, its_number c, (taken_at _ _ _ _ no_event (its_place c)).0, items_fit c.args.graph.now.events)

pub overflow_cast-a : goal.overflow_cast-a
overflow_cast-a c = let few = fits (goal.at.overflow_cast-a c).In-Some in omega arith

pub overflow_cast-a-in-loop-a : goal.overflow_cast-a-in-loop-a
overflow_cast-a-in-loop-a c = let few = fits (goal.at.overflow_cast-a-in-loop-a c).In-Some in omega arith

pub loop-a-preserved : goal.loop-a-preserved
loop-a-preserved c =
    let g = view c.args.graph.now in
    let i = (goal.at.loop-a-preserved c).In-Some in
    let at = its_number i in
    let here = taken_at _ _ _ _ no_event (its_place i) in (
      c.in-Some.event.now ∷ c.loop-a.invariant.0,
      its_place i,
      c.in-Some.ensures.steps.0 ∙ c.loop-a.invariant.2,
      subst (λ (k : ℕ). ThreadsFrom g c.args.table.now k c.join_row.new.self c.insert.new.self) at
          (thread_turn g _ _ _ _ _ _ c.in-Some.a _ _
          (let n = ap length c.in-Some.ensures.steps.1.0 in let m = length-append (iter_rest (enumerate_source (rev_source c.next.new.self))) (c.in-Some.event.now ∷ []) in omega arith)
          (omega (arith, at, here.0)) c.loop-a.invariant.3
          c.row.ensures.has_just_the_seconds_of_a
          c.join_row.ensures.adds_just_those_pairs_of_a
          c.insert.ensures.adds_just_this_pair
          (ap (λ (e : Event). e.thread) (here.1 ∙ ap (λ k. get_or g.events k no_event) (sym at)))),
    )
