use Rattle.std.proofs.Common.{◌+◌, ◌*◌, ◌/◌, ◌%◌, ◌^◌, eqb, get_or, refl, ap, arith}
use lib.Bits.{and_mask}
use Rattle.std.proofs.lemmas.Bool.Decides.{nat_tests}
use Rattle.event_set.specs.Sets.{bit}
use Rattle.relation.proofs.Words.{holds_at}
use Rattle.relation.proofs.table.Relation.contains.Goals as goal

pub returns : goal.returns
unfolding bit
returns c =
    let ws = c.args.self.now.words in
    let a = c.args.a in
    let b = c.args.b in
    let here = holds_at ws (4 * a + b / 64) a b refl in
    let digit = ap (λ n. eqb n 1) (and_mask (get_or ws (4 * a + b / 64) 0 / 2 ^ (b % 64)) 1) in
    record { tells_whether_it_holds_it = grind (arith, nat_tests) }
