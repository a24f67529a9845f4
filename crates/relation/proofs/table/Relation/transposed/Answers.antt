use Rattle.std.proofs.Common.{ap, arith}
use Rattle.std.proofs.lemmas.Bool.Decides.{nat_tests}
use Rattle.event_set.specs.Sets.{has}
use Rattle.event_set.specs.declared.event_set.EventSet.{EventSet}
use Rattle.relation.proofs.Words.{holds_outside}
use Rattle.relation.proofs.table.Relation.transposed.Goals as goal

pub loop-a-init : goal.loop-a-init
loop-a-init c = λ x y.
    let none = c.empty-back.ensures.holds_no_pair x y in
    let at = c.full-a-items.ensures.has_every_event y in
    let same = ap (λ (s : EventSet). has s y) c.into_iter-a-iterator.ensures.into_iter_gives in
    let out = holds_outside c.args.self.now y x in
    grind (arith, nat_tests)
