use Rattle.std.proofs.Common.{ℕ, ◌<◌, min, List, [], ◌∷◌, ◌++◌, length, sym, ap, subst, arith}
use Rattle.std.proofs.lemmas.List.{length_push}
use Rattle.std.proofs.lemmas.Bool.Decides.{nat_tests}
use Rattle.event_set.specs.Sets.{has}
use Rattle.relation.specs.Table.{holds}
use Rattle.relation.specs.Sequences.{events}
use Rattle.cycles.proofs.Listed.{Begun, begun_none, begun_bound, listing_length, listed_is_acyclic, one_listing}
use Rattle.cycles.proofs.Queue.{Queue, queue_none, queue_more, lists_on, all_wait, all_listed, listed_exactly_without_cycles}
use Rattle.relation.proofs.Appended.{appended}
use Rattle.relation.proofs.table.Relation.list.Goals as goal
use Rattle.relation.proofs.table.Relation.list.Goals.{In-Some}

pub loop-event-init : goal.loop-event-init
loop-event-init c =
    let m = min c.args.n 256 in (
      subst (λ (ys : List ℕ). Begun (holds c.args.self.now) m ys) (sym c.empty-listed.ensures.has_no_item) (begun_none _ m),
      queue_none c.args.n _ _ c.below-left.ensures.has_just_those_below c.empty-listed.ensures.has_no_item,
    )

-- with the event that is found the listing goes on
goes_on : (c : In-Some) → Begun (holds c.args.self.now) (min c.args.n 256) (events c.loop-event.listed ++ (c.in-Some.event ∷ []))
goes_on c =
    lists_on _ _ _ c.loop-event.invariant.1 (holds c.args.self.now) (holds c.transposed-back.result)
    c.transposed-back.ensures.holds_each_pair_turned c.in-Some.event c.in-Some.ensures c.loop-event.invariant.0

has_room : (c : In-Some) → length (events c.loop-event.listed) < 256
has_room c =
    let bound = begun_bound _ _ _ (goes_on c) in
    let more = length_push (events c.loop-event.listed) c.in-Some.event in
    omega arith

pub returns-in_err-ok : goal.returns-in_err-ok
returns-in_err-ok c = let room = has_room (goal.at.returns-in_err-ok c).In-Some in absurd (grind (arith, nat_tests))

pub loop-event-preserved : goal.loop-event-preserved
loop-event-preserved c =
    let m = min c.args.n 256 in
    let at_end = appended _ _ c.in-Some.event c.push.ensures.at_the_end_where_there_is_room (has_room (goal.at.loop-event-preserved c).In-Some) in
    let queue = queue_more m _ _ c.loop-event.invariant.1 c.in-Some.event _ c.remove.ensures.takes_just_this_one in (
      subst (λ (zs : List ℕ). Begun (holds c.args.self.now) m zs) (sym at_end) (goes_on (goal.at.loop-event-preserved c).In-Some),
      subst (λ (zs : List ℕ). Queue m zs (has c.remove.new.self)) (sym at_end) queue,
    )

pub loop-event-smaller : goal.loop-event-smaller
loop-event-smaller c =
    let room = has_room (goal.at.loop-event-smaller c).In-Some in
    let more = length_push (events c.loop-event.listed) c.in-Some.event in
    omega (arith, ap length (appended _ _ c.in-Some.event c.push.ensures.at_the_end_where_there_is_room room))

pub returns-then-is_empty : goal.returns-then-is_empty
returns-then-is_empty c =
    let listing = all_listed _ _ _ c.loop-event.invariant.1 (holds c.args.self.now) c.loop-event.invariant.0
    c.if-is_empty.ensures.true_exactly_when_it_has_none in
    record {
      none_exactly_when_they_have_a_cycle = listed_is_acyclic _ _ _ listing;
      else_each_is_the_lowest_that_is_ready = listing;
      the_list_has_each_event_once = listing_length _ _ _ listing;
      there_is_a_list_exactly_when_there_is_no_cycle = listed_exactly_without_cycles;
      there_is_one_list_at_most = one_listing;
    }

pub returns-else-is_empty : goal.returns-else-is_empty
returns-else-is_empty c =
    let left = c.if-is_empty.ensures.true_exactly_when_it_has_none in
    record {
      none_exactly_when_they_have_a_cycle =
          all_wait _ _ _ c.loop-event.invariant.1 (holds c.args.self.now) (holds c.transposed-back.result)
          c.transposed-back.ensures.holds_each_pair_turned c.in_default.ensures left.0 left.1;
      else_each_is_the_lowest_that_is_ready = tt;
      the_list_has_each_event_once = tt;
      there_is_a_list_exactly_when_there_is_no_cycle = listed_exactly_without_cycles;
      there_is_one_list_at_most = one_listing;
    }
