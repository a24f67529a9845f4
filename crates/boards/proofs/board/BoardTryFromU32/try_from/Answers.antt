use Rattle.std.proofs.Common.{rules}
use Rattle.boards.proofs.Choosing.{chooses}
use Rattle.boards.proofs.board.BoardTryFromU32.try_from.Goals as goal

pub returns-in-0 : goal.returns-in-0
returns-in-0 c = chooses _ _ (search rules)

pub returns-in-1 : goal.returns-in-1
returns-in-1 c = chooses _ _ (search rules)

pub returns-in-2 : goal.returns-in-2
returns-in-2 c = chooses _ _ (search rules)

pub returns-in-3 : goal.returns-in-3
returns-in-3 c = chooses _ _ (search rules)

pub returns-in-4 : goal.returns-in-4
returns-in-4 c = chooses _ _ (search rules)

pub returns-in_default : goal.returns-in_default
returns-in_default c = chooses _ _ (search rules)
