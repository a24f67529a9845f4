use Rattle.std.proofs.Common.{◌≡◌, ◌++◌, length, replicate, refl, ap, ◌∙◌, arith, rules}
use Rattle.numeral.proofs.Laws.{numeral_justified}
use Rattle.numeral.proofs.Spelling.{padded}
use Rattle.numeral.proofs.writing.write.Goals as goal
use Rattle.numeral.specs.Numerals.{justified, numeral}

pub returns : goal.returns
returns c =
    let number = c.args.number in
    let wide = length c.args.field.now in
    let spaces = padded wide c.in-Some.start number (omega arith) in
    let filled : c.fill.new.self ≡ replicate c.in-Some.start 32 = search rules in
    let stands : c.fill.new.self ++ c.spell.new.field ≡ justified wide number = rw (filled, c.spell.ensures) spaces in
    record {
      a_number_that_fits_stands_justified = λ fits. (refl, stands);
      a_field_too_narrow_is_left_as_it_was = λ narrow. absurd (omega arith);
      what_is_written_reads_back = λ _. ap numeral stands ∙ numeral_justified wide number (omega arith);
    }
