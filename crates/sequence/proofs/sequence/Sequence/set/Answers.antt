use lib.Seq.{take-set-lt}
use Rattle.std.proofs.Common.{rules}
use Rattle.sequence.specs.Sequences.{items}
use Rattle.sequence.proofs.sequence.Sequence.set.Goals as goal

pub returns-then-at-self : goal.returns-then-at-self
unfolding items
returns-then-at-self g c = record { in_place_of_the_one_there = take-set-lt c.args.self.now.len c.args.self.now.places c.args.at c.args.item (search rules) }
