use Rattle.std.proofs.Common.{◌≡◌, ◌%◌, sym, arith}
use Rattle.numeral.proofs.Spelling.{length_decimal_digit, length_decimal_step}
use Rattle.numeral.proofs.writing.+spell.Goals as goal
use Rattle.std.proofs.lemmas.Fmt.{decimal_digit, decimal_step}
use Rattle.std.proofs.lemmas.List.{nil_from_length}

pub spell-requires : goal.spell-requires
spell-requires t c = omega (arith, c.in-Some.ensures.cases.1, length_decimal_step c.args.number c.if-number-ge10.true (omega arith))

pub returns-then-number-ge10 : goal.returns-then-number-ge10
returns-then-number-ge10 t c =
    let step = decimal_step c.args.number c.if-number-ge10.true (omega arith) in
    let others = c.spell.ensures in
    cc

pub returns-else-number-ge10 : goal.returns-else-number-ge10
returns-else-number-ge10 t c =
    let number = c.args.number in
    let alone = nil_from_length c.in-Some.others.now (omega (arith, c.in-Some.ensures.cases.1, length_decimal_digit number c.if-number-ge10.false)) in
    let same : number % 10 ≡ number = omega arith in
    rw (alone, same) (sym (decimal_digit number c.if-number-ge10.false))
