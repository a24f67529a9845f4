-- Models of one order and of two keep the rules, where their relations grow and the first holds what every model orders.
use Rattle.std.specs.Prelude.{ℕ, Bool, ◌&&◌, T, ◌==◌}
use Rattle.std.proofs.Common.{inl, inr, eqb→eq, lit≤, arith}
use Rattle.execution.specs.Content.{Content, same_location, po, rf, mo, rb}
use Rattle.execution.specs.Sound.{Sound}
use Rattle.model.specs.Meaning.{Rules, Coheres}
use Rattle.boards.specs.Relations.{◌∪◌, one_order, two_orders}
use Rattle.execution.proofs.Tests.{both, left, right, either}
use Rattle.model.specs.Either.{or_left, or_right}
use Rattle.model.specs.Growing.{Grows, join, rf_grows, mo_grows, rb_grows}

pub one_order_rules : (r : Content → ℕ → ℕ → Bool) → Grows r → ((g : Content) → Sound g → Coheres g (r g)) → Rules (one_order r)
one_order_rules r p f = record {
  few = (lit≤ tt, lit≤ tt);
  inside = λ g s k a b h. p.inside g s a b (right (k == 0) _ h);
  beyond = λ g s k a b l h. let e = eqb→eq k 0 (left (k == 0) _ h) in omega arith;
  floor = f;
  growth = λ g h s t i k a b x. both (k == 0) (r h a b) (left (k == 0) _ x) (p.grows g h s t i a b (right (k == 0) _ x));
}

pub two_orders_rules : (r s : Content → ℕ → ℕ → Bool) → Grows r → Grows s → ((g : Content) → Sound g → Coheres g (r g)) → Rules (two_orders r s)
two_orders_rules r s p q f = record {
  few = (lit≤ tt, lit≤ tt);
  inside = λ g t k a b h. elim (either (k == 0 && r g a b) _ h) [
    | inl x ↦ p.inside g t a b (right (k == 0) _ x)
    | inr y ↦ q.inside g t a b (right (k == 1) _ y)
  ];
  beyond = λ g t k a b l h. elim (either (k == 0 && r g a b) _ h) [
    | inl x ↦ let e = eqb→eq k 0 (left (k == 0) _ x) in omega arith
    | inr y ↦ let e = eqb→eq k 1 (left (k == 1) _ y) in omega arith
  ];
  floor = λ g t. let c = f g t in record {
    by_po = λ a b x y. or_left (r g a b) _ (c.by_po a b x y);
    by_rf = λ a b x. or_left (r g a b) _ (c.by_rf a b x);
    by_mo = λ a b x. or_left (r g a b) _ (c.by_mo a b x);
    by_rb = λ a b x. or_left (r g a b) _ (c.by_rb a b x);
  };
  growth = λ g h t u i k a b z. elim (either (k == 0 && r g a b) _ z) [
    | inl x ↦ or_left (k == 0 && r h a b) _ (both (k == 0) _ (left (k == 0) _ x) (p.grows g h t u i a b (right (k == 0) _ x)))
    | inr y ↦ or_right (k == 0 && r h a b) _ (both (k == 1) _ (left (k == 1) _ y) (q.grows g h t u i a b (right (k == 1) _ y)))
  ];
}

-- rf, mo and rb beside a relation that has po between accesses of one location
pub rest_grows : Grows (λ g. rf g ∪ mo g ∪ rb g)
rest_grows = join rf (λ g. mo g ∪ rb g) rf_grows (join mo rb mo_grows rb_grows)

pub coheres : (g : Content) (r : ℕ → ℕ → Bool) → ((a b : ℕ) → T (po g a b) → T (same_location g a b) → T (r a b)) → Coheres g (r ∪ rf g ∪ mo g ∪ rb g)
coheres g r f = record {
  by_po = λ a b x y. or_left (r a b) _ (f a b x y);
  by_rf = λ a b x. or_right (r a b) _ (or_left (rf g a b) _ x);
  by_mo = λ a b x. or_right (r a b) _ (or_right (rf g a b) _ (or_left (mo g a b) _ x));
  by_rb = λ a b x. or_right (r a b) _ (or_right (rf g a b) _ (or_right (mo g a b) _ x));
}
