use Rattle.std.proofs.Common.{◌≡◌, ◌<◌, length, get_or, sym, ◌∙◌, rules}
use Rattle.numeral.proofs.Spaces.{unpadded_bare, unpadded_rest}
use Rattle.numeral.proofs.reading.trimmed.Goals as goal

pub loop-rest-preserved : goal.loop-rest-preserved
loop-rest-preserved c =
    let some : 0 < length c.loop-rest.rest.now = search rules in
    let space : get_or c.loop-rest.rest.now 0 0 ≡ 32 = search rules in
    unpadded_rest c.loop-rest.rest.now some space ∙ c.loop-rest.invariant

pub returns-in_default : goal.returns-in_default
returns-in_default c =
    sym (unpadded_bare c.loop-rest.rest.now (λ some space. search rules)) ∙ c.loop-rest.invariant

pub returns-in_default-2 : goal.returns-in_default-2
returns-in_default-2 c =
    sym (unpadded_bare c.loop-rest.rest.now (λ some space. search rules)) ∙ c.loop-rest.invariant
