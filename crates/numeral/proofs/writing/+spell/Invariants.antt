use Rattle.numeral.proofs.writing.+spell.Given as goal

abbrev pub decreases-spell : goal.decreases-spell
decreases-spell l = l.number
