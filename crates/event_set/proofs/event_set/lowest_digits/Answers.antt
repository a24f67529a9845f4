use Rattle.std.proofs.Common.{◌-◌, ap, sym, ◌∙◌, arith}
use Rattle.std.proofs.lemmas.Nat.{one_shl}
use Rattle.std.proofs.lemmas.Bool.{lt-ltb}
use Rattle.event_set.specs.Sets.{bit}
use Rattle.event_set.proofs.Digits.{bit_ones}
use Rattle.event_set.proofs.event_set.lowest_digits.Goals as goal

pub returns-then-count-lt64 : goal.returns-then-count-lt64
returns-then-count-lt64 c k h = ap (λ n. bit (n - 1) k) (one_shl c.args.count 64 (omega arith)) ∙ bit_ones c.args.count k

pub returns-else-count-lt64 : goal.returns-else-count-lt64
returns-else-count-lt64 c k h = bit_ones 64 k ∙ lt-ltb k 64 h ∙ sym (lt-ltb k c.args.count (omega arith))
