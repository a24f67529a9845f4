-- The three orders keep the rules of a model: they join events and grow, and the first is coherence.
use Rattle.std.specs.Prelude.{ℕ, ◌&&◌, ◌||◌, T, ◌==◌}
use Rattle.std.proofs.Common.{rules, lit≤}
use Rattle.execution.specs.Content.{Content, same_location, po, rf, mo, rb}
use Rattle.execution.proofs.Tests.{both}
use Rattle.model.specs.Meaning.{Floor, Rules}
use Rattle.model.specs.Either.{or_left, or_right}
use Rattle.model.specs.Growing.{Grows, join, guard, near, po_grows, rf_grows, mo_grows, rb_grows}
use Rattle.threefold.specs.Threefold.{coherence, threefold}

coherence_grows : Grows coherence
coherence_grows =
    join (λ g a b. po g a b && same_location g a b) (λ g a b. rf g a b || (mo g a b || rb g a b)) (near po po_grows)
    (join rf (λ g a b. mo g a b || rb g a b) rf_grows (join mo rb mo_grows rb_grows))

pub order_grows : (k : ℕ) → Grows (λ g a b. threefold.pairs g k a b)
order_grows k =
    join (λ g a b. (k == 0) && coherence g a b) (λ g a b. (k == 1 && (po g a b || rf g a b)) || (k == 2 && (po g a b || mo g a b)))
    (guard (k == 0) coherence coherence_grows)
    (join (λ g a b. (k == 1) && (po g a b || rf g a b)) (λ g a b. (k == 2) && (po g a b || mo g a b))
    (guard (k == 1) (λ g a b. po g a b || rf g a b) (join po rf po_grows rf_grows))
    (guard (k == 2) (λ g a b. po g a b || mo g a b) (join po mo po_grows mo_grows)))

-- coherence is in the first order
first : (g : Content) (a b : ℕ) → T (coherence g a b) → T (threefold.pairs g 0 a b)
first g a b h = or_left (coherence g a b) _ h

pub floor : Floor threefold
floor g s = record {
  by_po = λ a b x y. first g a b (or_left (po g a b && same_location g a b) _ (both (po g a b) (same_location g a b) x y));
  by_rf = λ a b x. first g a b (or_right (po g a b && same_location g a b) _ (or_left (rf g a b) _ x));
  by_mo = λ a b x. first g a b (or_right (po g a b && same_location g a b) _ (or_right (rf g a b) _ (or_left (mo g a b) _ x)));
  by_rb = λ a b x. first g a b (or_right (po g a b && same_location g a b) _ (or_right (rf g a b) _ (or_right (mo g a b) _ x)));
}

pub threefold_rules : Rules threefold
threefold_rules = record {
  few = (lit≤ tt, lit≤ tt);
  inside = λ g s k. (order_grows k).inside g s;
  beyond = search rules;
  floor = floor;
  growth = λ g h s t i k. (order_grows k).grows g h s t i;
}
