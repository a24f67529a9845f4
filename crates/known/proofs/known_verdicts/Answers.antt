use Rattle.std.proofs.Common.{refl}
use Rattle.known.proofs.Table.{known_verdicts}
use Rattle.known.proofs.known_verdicts.Goals as goal

pub returns : goal.returns
returns c = record { every_known_verdict_is_right = known_verdicts; as_many_as_the_table_has = refl }
