use Rattle.relation.proofs.Words.{holds_none}
use Rattle.relation.proofs.table.Relation.empty.Goals as goal

pub returns : goal.returns
returns c = record { holds_no_pair = holds_none }
