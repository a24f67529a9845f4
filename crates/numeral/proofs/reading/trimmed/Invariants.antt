use Rattle.numeral.proofs.reading.trimmed.Given as goal
use Rattle.numeral.specs.Numerals.{unpadded}
use Rattle.std.proofs.Common.{◌≡◌, length}

abbrev pub invariant-loop-rest : goal.invariant-loop-rest
invariant-loop-rest l = unpadded l.rest ≡ unpadded l.field

abbrev pub decreases-loop-rest : goal.decreases-loop-rest
decreases-loop-rest l = length l.rest
