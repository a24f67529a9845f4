use Rattle.boards.specs.Boards.{meaning_of, ConsistentUnder}
use Rattle.boards.specs.OfBoard.{board_follows}
use Rattle.piles.specs.OfPile.{of_no_thread, of_no_layer}
use Rattle.piles.proofs.pile.Pile.new.Goals as goal

pub returns-clause-of_no_thread_adds_no_pair_to_that : goal.returns-clause-of_no_thread_adds_no_pair_to_that
returns-clause-of_no_thread_adds_no_pair_to_that c = of_no_thread c.args.strong c.args.barrier (meaning_of c.args.board)

pub returns-clause-of_no_layer_serves_exactly_what_the_textbook_calls_consistent :
    goal.returns-clause-of_no_layer_serves_exactly_what_the_textbook_calls_consistent
returns-clause-of_no_layer_serves_exactly_what_the_textbook_calls_consistent c =
    let board = c.args.board in
    λ none bare. of_no_layer c.args.strong c.args.barrier (meaning_of board) (ConsistentUnder board) none bare (board_follows board)
