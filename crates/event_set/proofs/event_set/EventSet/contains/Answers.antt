use Rattle.std.proofs.Common.{◌/◌, ◌%◌, ◌^◌, eqb, get_or, refl, ap, arith}
use lib.Bits.{and_mask}
use Rattle.std.proofs.lemmas.Bool.Decides.{nat_tests}
use Rattle.event_set.specs.Sets.{bit}
use Rattle.event_set.proofs.Words.{has_at}
use Rattle.event_set.proofs.event_set.EventSet.contains.Goals as goal

pub returns : goal.returns
unfolding bit
returns c =
    let e = c.args.event in
    let w = get_or c.args.self.now.words (e / 64) 0 in
    let here = has_at c.args.self.now.words (e / 64) e refl in
    let digit = ap (λ n. eqb n 1) (and_mask (w / 2 ^ (e % 64)) 1) in
    record { tells_whether_it_has_it = grind (arith, nat_tests) }
