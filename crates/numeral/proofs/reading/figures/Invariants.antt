use Rattle.std.proofs.Common.{◌≡◌, ◌^◌, ◌<◌, drop}
use Rattle.numeral.proofs.reading.figures.Given as goal
use Rattle.numeral.specs.Numerals.{value_after}
use Rattle.std.specs.Str.{all_ascii_digits}

-- what is left completes the number, and decides whether all are digits
abbrev pub invariant-loop-digit : goal.invariant-loop-digit
invariant-loop-digit l =
    (value_after l.number (drop l.digit-index l.digits) ≡ value_after 0 l.digits)
    × (all_ascii_digits (drop l.digit-index l.digits) ≡ all_ascii_digits l.digits)
    × (l.number < 2 ^ 32)
