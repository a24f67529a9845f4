-- Each of the five models keeps the rules, and follows the textbook.
use Rattle.model.specs.Meaning.{Rules}
use Rattle.boards.specs.declared.board.Board.{Board}
use Rattle.boards.specs.declared.board.Board.TheVariants.{Coh, C11, Ra, Tso, Sc}
use Rattle.boards.specs.Agreement.{Follows}
use Rattle.boards.specs.Boards.{meaning_of, ConsistentUnder}
use Rattle.boards.specs.OfCoh.{coh_rules, coh_follows}
use Rattle.boards.specs.OfC11.{c11_rules, c11_follows}
use Rattle.boards.specs.OfRa.{ra_rules, ra_follows}
use Rattle.boards.specs.OfTso.{tso_rules, tso_follows}
use Rattle.boards.specs.OfSc.{sc_rules, sc_follows}

pub board_rules : (b : Board) → Rules (meaning_of b)
board_rules Coh = coh_rules
board_rules C11 = c11_rules
board_rules Ra = ra_rules
board_rules Tso = tso_rules
board_rules Sc = sc_rules

pub board_follows : (b : Board) → Follows (meaning_of b) (ConsistentUnder b)
board_follows Coh = coh_follows
board_follows C11 = c11_follows
board_follows Ra = ra_follows
board_follows Tso = tso_follows
board_follows Sc = sc_follows
