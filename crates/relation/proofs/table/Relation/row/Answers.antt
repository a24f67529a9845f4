use Rattle.std.proofs.Common.{arith, rules}
use Rattle.relation.proofs.Words.{has_row}
use Rattle.relation.proofs.table.Relation.row.Goals as goal

pub returns : goal.returns
returns c = record {
  has_just_the_seconds_of_a = λ y. has_row c.args.self.now.words c.from.result.words c.args.a y (omega arith) (λ q l. search rules);
}
