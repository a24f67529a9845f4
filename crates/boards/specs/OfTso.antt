-- TSO keeps the rules, and follows the textbook.
use Rattle.std.specs.Prelude.{Bool, not, ◌&&◌, T, ◌==◌, nat_eq}
use Rattle.std.proofs.Common.{ap₂, eqb→eq}
use Rattle.event.specs.declared.event.Label.{Label}
use Rattle.event.specs.Labels.{is_read, is_write}
use Rattle.execution.specs.Content.{Content, thread_of, label_of, po, rf, mo, rb}
use Rattle.execution.proofs.Tests.{both, left, right, no, yes_no, same}
use Rattle.model.specs.Meaning.{Rules}
use Rattle.boards.specs.Relations.{◌∪◌}
use Rattle.boards.specs.Coh.{coh_order}
use Rattle.boards.specs.Tso.{plain_write, plain_read, ppo, rfe, tso_order, tso}
use Rattle.model.specs.Growing.{Grows, join, part, label_within, thread_within, rf_grows, po_grows, mo_grows, rb_grows}
use Rattle.boards.specs.Keeping.{two_orders_rules}
use Rattle.boards.specs.OfCoh.{coh_grows, coh_rules, coh_same}
use Rattle.boards.specs.Textbook as book
use Rattle.boards.specs.Agreement.{Follows}
use Rattle.boards.specs.Agreeing.{Same, same_itself, same_union, same_rb, follows_two}

ppo_grows : Grows ppo
ppo_grows = part po (λ g a b. not (plain_write (label_of g a) && plain_read (label_of g b))) po_grows
    (λ g h i a b k l. ap₂ (λ (x y : Label). not (plain_write x && plain_read y)) (label_within g h i a k) (label_within g h i b l))

rfe_grows : Grows rfe
rfe_grows = part rf (λ g a b. not (thread_of g a == thread_of g b)) rf_grows
    (λ g h i a b k l. ap₂ (λ x y. not (x == y)) (thread_within g h i a k) (thread_within g h i b l))

pub tso_rules : Rules tso
tso_rules = two_orders_rules coh_order tso_order coh_grows
    (join ppo (λ g. rfe g ∪ mo g ∪ rb g) ppo_grows (join rfe (λ g. mo g ∪ rb g) rfe_grows (join mo rb mo_grows rb_grows)))
    (λ g s. coh_rules.floor g s)

-- a write that reads nothing, and a read that writes nothing
plain : (x y : Bool) → (T (x && not y) → T x × (T y → ⊥)) × (T x × (T y → ⊥) → T (x && not y))
plain x y = (λ h. (left x _ h, yes_no y (right x _ h)), λ h. both x (not y) h.0 (no y h.1))

same_ppo : (g : Content) → Same (ppo g) (book.PPO g)
same_ppo g a b =
    let w = plain (is_write (label_of g a)) (is_read (label_of g a)) in
    let r = plain (is_read (label_of g b)) (is_write (label_of g b)) in
    let delayed = plain_write (label_of g a) && plain_read (label_of g b) in (
      λ h. (left (po g a b) _ h, λ k. yes_no delayed (right (po g a b) _ h) (both (plain_write (label_of g a)) _ (w.1 k.0) (r.1 k.1))),
      λ h. both (po g a b) _ h.0 (no delayed (λ k. h.1 (w.0 (left (plain_write (label_of g a)) _ k), r.0 (right (plain_write (label_of g a)) _ k)))),
    )

same_rfe : (g : Content) → Same (rfe g) (book.RFE g)
same_rfe g a b =
    let one = nat_eq (thread_of g a) (thread_of g b) in (
      λ h. (left (rf g a b) _ h, λ e. yes_no one (right (rf g a b) _ h) (same (thread_of g a) (thread_of g b) e)),
      λ h. both (rf g a b) (not one) h.0 (no one (λ k. h.1 (eqb→eq (thread_of g a) (thread_of g b) k))),
    )

pub tso_follows : Follows tso book.TsoConsistent
tso_follows = follows_two coh_order tso_order
    (λ g M. book.◌∪◌ (book.per_location g (book.PO g)) (book.◌∪◌ (book.RF g) (book.◌∪◌ M (book.RB g M))))
    (λ g M. book.◌∪◌ (book.PPO g) (book.◌∪◌ (book.RFE g) (book.◌∪◌ M (book.RB g M))))
    (λ g s. coh_same g)
    (λ g s. same_union (ppo g) (rfe g ∪ mo g ∪ rb g) _ _ (same_ppo g) (same_union (rfe g) (mo g ∪ rb g) _ _ (same_rfe g) (same_union (mo g) (rb g) _ _ (same_itself (mo g)) (same_rb g))))
