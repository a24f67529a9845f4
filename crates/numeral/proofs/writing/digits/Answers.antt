use Rattle.std.proofs.Common.{sym, arith}
use Rattle.numeral.proofs.Spelling.{length_decimal_log}
use Rattle.numeral.proofs.writing.digits.Goals as goal

pub returns : goal.returns
returns c = sym (length_decimal_log c.ilog10.result c.args.number c.max.result (λ l. omega arith) (λ z. omega arith) c.ilog10.ensures.power_le c.ilog10.ensures.next_power_gt (omega arith))
