use Rattle.std.proofs.Common.{arith, rules}
use Rattle.sequence.specs.Sequences.{items}
use Rattle.sequence.proofs.Rotated.{rotated}
use Rattle.sequence.proofs.sequence.Sequence.insert.Goals as goal

pub returns-then-at-self-clause-at_the_index_where_there_is_room : goal.returns-then-at-self-clause-at_the_index_where_there_is_room
unfolding items
returns-then-at-self-clause-at_the_index_where_there_is_room g c =
    let turned = rotated c.push.new.self.places (items c.args.self.now) c.args.item c.args.at c.push.new.self.len c.rotate_right.new.self (omega arith) (omega arith) (search rules) (search rules) in
    search rules
