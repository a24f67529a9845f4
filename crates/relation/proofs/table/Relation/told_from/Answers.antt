use Rattle.std.proofs.Common.{◌<◌, length, ℕ, ◌-◌, ◌&&◌, T, List, [], ◌∷◌, ◌++◌, Decides, ap, ◌∙◌, arith}
use Rattle.std.proofs.lemmas.Bool.{and_from, both_ways}
use Rattle.std.proofs.lemmas.Bool.Decides.{Decides-at}
use Rattle.event_set.specs.Sets.{has}
use Rattle.relation.specs.Table.{holds}
use Rattle.relation.specs.Sequences.{events}
use Rattle.cycles.specs.Cycles.{Way}
use Rattle.cycles.proofs.Tests.{is_true}
use Rattle.cycles.proofs.Telling.{candidate, told_none, told_length, goes_somewhere, told_more, told_all}
use Rattle.relation.proofs.Appended.{appended}
use Rattle.relation.proofs.table.Relation.told_from.Goals as goal
use Rattle.relation.proofs.table.Relation.told_from.Goals.{After-lowest_into}

pub loop-k-init : goal.loop-k-init
loop-k-init c =
    let none = c.empty-cycle.ensures.has_no_item in
    let room : length (events c.empty-cycle.result) < 256 = omega (arith, ap length none) in
    let alone = appended _ _ c.args.start c.push.ensures.at_the_end_where_there_is_room room ∙ ap (λ (l : List ℕ). l ++ (c.args.start ∷ [])) none in
    told_none (holds c.args.self.now) c.args.start c.args.between _ alone c.requires.first.returns

-- the events that can be told next
candidates : (c : After-lowest_into) (x : ℕ)
    → Decides (holds c.args.self.now c.loop-k.here x && has c.row.result x)
    (T (holds c.args.self.now c.loop-k.here x) × Way (holds c.args.self.now) (c.loop-k.k - 1) x c.args.start)
candidates c x =
    candidate _ (c.loop-k.k - 1) c.loop-k.here x c.args.start _
    (Decides-at _ _ (c.row.ensures.has_just_the_seconds_of_a x) (c.ways_to-ways.ensures (c.loop-k.k - 1) x (omega arith)))

pub returns-in_err-here : goal.returns-in_err-here
returns-in_err-here c =
    let w = goes_somewhere _ _ _ _ _ _ c.loop-k.invariant (omega arith) in
    absurd (both_ways _ (c.in_err-here.ensures w.0) ((candidates (goal.at.returns-in_err-here c).After-lowest_into w.0).1 (w.1, w.2)))

pub loop-k-preserved : goal.loop-k-preserved
loop-k-preserved c =
    let next = candidates (goal.at.loop-k-preserved c).After-lowest_into in
    let found = c.in_ok-here.ensures in
    let room : length (events c.loop-k.cycle) < 256 = omega (arith, told_length _ _ _ _ _ _ c.loop-k.invariant) in
    told_more _ _ _ _ _ _ c.loop-k.invariant (omega arith) _ c.in_ok-here.here
    (appended _ _ c.in_ok-here.here c.push-in-loop-k.ensures.at_the_end_where_there_is_room room)
    ((next c.in_ok-here.here).0 (and_from _ _ (is_true _ found.0) (is_true _ found.1)))
    (λ y l w. both_ways _ (found.2 y l) ((next y).1 w))

pub returns : goal.returns
returns c = told_all _ _ _ _ _ _ c.loop-k.invariant (omega arith) c.requires.first
