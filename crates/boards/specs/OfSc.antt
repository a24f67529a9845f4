-- SC keeps the rules, and follows the textbook.
use Rattle.execution.specs.Content.{po, rf, mo, rb}
use Rattle.model.specs.Meaning.{Rules}
use Rattle.boards.specs.Relations.{◌∪◌}
use Rattle.boards.specs.Sc.{sc_order, sc}
use Rattle.model.specs.Growing.{join, po_grows}
use Rattle.boards.specs.Keeping.{one_order_rules, rest_grows, coheres}
use Rattle.boards.specs.Textbook as book
use Rattle.boards.specs.Agreement.{Follows}
use Rattle.boards.specs.Agreeing.{same_itself, same_union, same_rest, follows_one}

pub sc_rules : Rules sc
sc_rules = one_order_rules sc_order (join po (λ g. rf g ∪ mo g ∪ rb g) po_grows rest_grows) (λ g s. coheres g (po g) (λ a b x y. x))

pub sc_follows : Follows sc book.ScConsistent
sc_follows = follows_one sc_order (λ g M. book.◌∪◌ (book.PO g) (book.◌∪◌ (book.RF g) (book.◌∪◌ M (book.RB g M))))
    (λ g s. same_union (po g) (rf g ∪ mo g ∪ rb g) _ _ (same_itself (po g)) (same_rest g))
