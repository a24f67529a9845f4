-- RA keeps the rules, and follows the textbook.
use Rattle.std.specs.Prelude.{ℕ, ◌||◌, T}
use Rattle.execution.specs.Content.{Content, po, rf, mo, rb, same_location}
use Rattle.execution.specs.Sound.{Sound}
use Rattle.model.specs.Meaning.{Rules}
use Rattle.boards.specs.Relations.{◌∪◌, at_one_location}
use Rattle.boards.specs.Ra.{ra_hb, ra_order, ra}
use Rattle.execution.proofs.Tests.{both}
use Rattle.model.specs.Either.{or_left, or_right}
use Rattle.model.specs.Growing.{Grows, join, near, rf_grows, po_grows, mo_grows, rb_grows}
use Rattle.boards.specs.Stepping.{steps_grow, one_step}
use Rattle.boards.specs.Keeping.{one_order_rules}
use Rattle.boards.specs.Textbook as book
use Rattle.boards.specs.Agreement.{Follows}
use Rattle.boards.specs.Agreeing.{Same, same_itself, same_union, same_near, same_steps, same_rb, follows_one}

pub po_or_rf_grows : Grows (λ g. po g ∪ rf g)
po_or_rf_grows = join po rf po_grows rf_grows

pub ra_hb_grows : Grows ra_hb
ra_hb_grows = steps_grow (λ g. po g ∪ rf g) po_or_rf_grows

-- an access before another of its location
ordered : (g : Content) (a b : ℕ) → T (ra_hb g a b) → T (same_location g a b) → T (ra_order g a b)
ordered g a b h l = or_left (at_one_location g (ra_hb g) a b) (mo g a b || rb g a b) (both (ra_hb g a b) (same_location g a b) h l)

pub ra_rules : Rules ra
ra_rules = one_order_rules ra_order
    (join (λ g. at_one_location g (ra_hb g)) (λ g. mo g ∪ rb g) (near ra_hb ra_hb_grows) (join mo rb mo_grows rb_grows))
    (λ g s. record {
      by_po = λ a b x. ordered g a b (one_step g (po g ∪ rf g) a b (or_left (po g a b) (rf g a b) x));
      by_rf = λ a b x. ordered g a b (one_step g (po g ∪ rf g) a b (or_right (po g a b) (rf g a b) x)) (s.linked a b x).there;
      by_mo = λ a b x. or_right (at_one_location g (ra_hb g) a b) _ (or_left (mo g a b) _ x);
      by_rb = λ a b x. or_right (at_one_location g (ra_hb g) a b) _ (or_right (mo g a b) _ x);
    })

-- one or more steps of po or rf
same_hb : (g : Content) → Sound g → Same (ra_hb g) (book.OneOrMore (book.◌∪◌ (book.PO g) (book.RF g)))
same_hb g s = same_steps (po g ∪ rf g) _ (same_union (po g) (rf g) _ _ (same_itself (po g)) (same_itself (rf g))) g (λ a b h. (po_or_rf_grows.inside g s a b h).1)

pub ra_follows : Follows ra book.RaConsistent
ra_follows = follows_one ra_order (λ g M. book.◌∪◌ (book.per_location g (book.OneOrMore (book.◌∪◌ (book.PO g) (book.RF g)))) (book.◌∪◌ M (book.RB g M)))
    (λ g s. same_union (at_one_location g (ra_hb g)) (mo g ∪ rb g) _ _ (same_near g (ra_hb g) _ (same_hb g s)) (same_union (mo g) (rb g) _ _ (same_itself (mo g)) (same_rb g)))
