-- The computed steps are "one or more steps", and grow with the graph.
use Rattle.std.specs.Prelude.{◌≡◌, ℕ, zero, suc, ◌<◌, ◌≤◌, Bool, ◌&&◌, ◌||◌, T, length}
use Rattle.std.proofs.Common.{sym, subst, inl, inr, arith}
use Rattle.std.proofs.lemmas.Bool.{cases_eq}
use Rattle.std.proofs.lemmas.Bool.Decides.{same_from_decides, Decides-like}
use Rattle.execution.specs.Content.{Content}
use Rattle.execution.proofs.Tests.{both, left, right, either, is_true, truth}
use Rattle.cycles.specs.Steps.{Plus, last, step, Closure}
use Rattle.model.specs.Either.{or_left, or_right}
use Rattle.model.specs.Growing.{Grows}
use Rattle.boards.specs.Relations.{through, steps, StepsAreOneOrMore}

-- ways by more events
through_further : (r : ℕ → ℕ → Bool) (k m a b : ℕ) → k ≤ m → T (through r k a b) → T (through r m a b)
through_further r k zero a b l h = subst (λ i. T (through r i a b)) (let e : k ≡ 0 = omega arith in e) h
through_further r k (suc m) a b l h = elim (cases_eq k (suc m)) [
  | inl e ↦ subst (λ i. T (through r i a b)) e h
  | inr n ↦ or_left (through r m a b) _ (through_further r k m a b (omega arith) h)
]

-- tests of ways from a to b, by way of x and by way of k
by_another : (ax xb ak kb xk kx ab : Bool) → (T ax → T xb → T ab) → (T ax → T xk → T ak) → (T kx → T xb → T kb) → T (ax || (ak && kx)) → T (xb || (xk && kb)) → T (ab || (ak && kb))
by_another ax xb ak kb xk kx ab f g h p q = grind arith

by_itself : (ak kk kb ab : Bool) → T (ak || (ak && kk)) → T (kb || (kk && kb)) → T (ab || (ak && kb))
by_itself ak kk kb ab p q = grind arith

through_through : (r : ℕ → ℕ → Bool) (k a x b : ℕ) → x < k → T (through r k a x) → T (through r k x b) → T (through r k a b)
through_through r zero a x b l p q = absurd (omega arith)
through_through r (suc k) a x b l p q = elim (cases_eq x k) [
  | inl e ↦ by_itself (through r k a k) (through r k k k) (through r k k b) (through r k a b) (subst (λ y. T (through r (suc k) a y)) e p) (subst (λ y. T (through r (suc k) y b)) e q)
  | inr n ↦ let m : x < k = omega arith in
      by_another (through r k a x) (through r k x b) (through r k a k) (through r k k b) (through r k x k) (through r k k x) (through r k a b)
      (through_through r k a x b m) (through_through r k a x k m) (through_through r k k x b m) p q
]

plus_plus : {r : ℕ → ℕ → Bool} {a m b : ℕ} → Plus r a m → Plus r m b → Plus r a b
plus_plus (last h) q = step h q
plus_plus (step h p) q = step h (plus_plus p q)

through_plus : (r : ℕ → ℕ → Bool) (k a b : ℕ) → T (through r k a b) → Plus r a b
through_plus r zero a b h = last h
through_plus r (suc k) a b h = elim (either (through r k a b) _ h) [
  | inl x ↦ through_plus r k a b x
  | inr y ↦ plus_plus (through_plus r k a k (left (through r k a k) _ y)) (through_plus r k k b (right (through r k a k) _ y))
]

plus_through : (r : ℕ → ℕ → Bool) (n : ℕ) → ((a b : ℕ) → T (r a b) → b < n) → {a b : ℕ} → Plus r a b → T (through r n a b)
plus_through r n inside {a} {b} (last h) = through_further r 0 n a b (omega arith) h
plus_through r n inside {a} {b} (step {m = m} h p) = through_through r n a m b (inside a m h) (through_further r 0 n a m (omega arith) h) (plus_through r n inside p)

pub steps_are_one_or_more : StepsAreOneOrMore
steps_are_one_or_more g r inside a b =
    (λ h. through_plus r (length g.events) a b (truth (steps g r a b) h), λ p. is_true (steps g r a b) (plus_through r (length g.events) inside p))

plus_larger : (r s : ℕ → ℕ → Bool) → ((a b : ℕ) → T (r a b) → T (s a b)) → {a b : ℕ} → Plus r a b → Plus s a b
plus_larger r s f {a} {b} (last h) = last (f a b h)
plus_larger r s f {a} (step {m = m} h p) = step (f a m h) (plus_larger r s f p)

-- a table that is closed holds the computed steps
pub closed : (g : Content) (r s t : ℕ → ℕ → Bool) → ((a b : ℕ) → T (r a b) → b < length g.events) → ((a b : ℕ) → s a b ≡ r a b) → Closure s t → (a b : ℕ) → t a b ≡ steps g r a b
closed g r s t inside same c a b = same_from_decides (t a b) (steps g r a b)
    (Decides-like (t a b) (plus_larger s r (λ x y h. subst T (same x y) h)) (plus_larger r s (λ x y h. subst T (sym (same x y)) h)) (c a b))
    (steps_are_one_or_more g r inside a b)

-- one step is one or more
pub one_step : (g : Content) (r : ℕ → ℕ → Bool) (a b : ℕ) → T (r a b) → T (steps g r a b)
one_step g r a b h = through_further r 0 (length g.events) a b (omega arith) h

-- the steps of a relation that grows
through_inside : (n : ℕ) (r : ℕ → ℕ → Bool) → ((a b : ℕ) → T (r a b) → (a < n) × (b < n)) → (k a b : ℕ) → T (through r k a b) → (a < n) × (b < n)
through_inside n r p zero a b h = p a b h
through_inside n r p (suc k) a b h = elim (either (through r k a b) _ h) [
  | inl x ↦ through_inside n r p k a b x
  | inr y ↦ ((through_inside n r p k a k (left (through r k a k) _ y)).0, (through_inside n r p k k b (right (through r k a k) _ y)).1)
]

through_more : (r s : ℕ → ℕ → Bool) → ((a b : ℕ) → T (r a b) → T (s a b)) → (k a b : ℕ) → T (through r k a b) → T (through s k a b)
through_more r s f zero a b h = f a b h
through_more r s f (suc k) a b h = elim (either (through r k a b) _ h) [
  | inl x ↦ or_left (through s k a b) _ (through_more r s f k a b x)
  | inr y ↦ or_right (through s k a b) _ (both (through s k a k) _ (through_more r s f k a k (left (through r k a k) _ y)) (through_more r s f k k b (right (through r k a k) _ y)))
]

pub steps_grow : (r : Content → ℕ → ℕ → Bool) → Grows r → Grows (λ g. steps g (r g))
steps_grow r p = record {
  inside = λ g s. through_inside (length g.events) (r g) (p.inside g s) (length g.events);
  grows = λ g h s t i a b k. through_further (r h) (length g.events) (length h.events) a b i.count (through_more (r g) (r h) (p.grows g h s t i) (length g.events) a b k);
}
