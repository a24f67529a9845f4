-- COH keeps the rules, and follows the textbook.
use Rattle.execution.specs.Content.{Content, po, rf, mo, rb, same_location}
use Rattle.model.specs.Meaning.{Rules}
use Rattle.boards.specs.Relations.{◌∪◌, at_one_location}
use Rattle.boards.specs.Coh.{coh, coh_order}
use Rattle.execution.proofs.Tests.{both}
use Rattle.model.specs.Growing.{Grows, join, near, po_grows}
use Rattle.boards.specs.Keeping.{one_order_rules, rest_grows, coheres}
use Rattle.boards.specs.Textbook as book
use Rattle.boards.specs.Agreement.{Follows}
use Rattle.boards.specs.Agreeing.{MO, Same, same_itself, same_union, same_near, same_rest, follows_one}

pub coh_grows : Grows coh_order
coh_grows = join (λ g. at_one_location g (po g)) (λ g. rf g ∪ mo g ∪ rb g) (near po po_grows) rest_grows

pub coh_rules : Rules coh
coh_rules = one_order_rules coh_order coh_grows (λ g s. coheres g (at_one_location g (po g)) (λ a b. both (po g a b) (same_location g a b)))

pub coh_same : (g : Content) → Same (coh_order g) (book.◌∪◌ (book.per_location g (book.PO g)) (book.◌∪◌ (book.RF g) (book.◌∪◌ (MO g) (book.RB g (MO g)))))
coh_same g = same_union (at_one_location g (po g)) (rf g ∪ mo g ∪ rb g) _ _ (same_near g (po g) (book.PO g) (same_itself (po g))) (same_rest g)

pub coh_follows : Follows coh book.Coherent
coh_follows = follows_one coh_order (λ g M. book.◌∪◌ (book.per_location g (book.PO g)) (book.◌∪◌ (book.RF g) (book.◌∪◌ M (book.RB g M)))) (λ g s. coh_same g)
