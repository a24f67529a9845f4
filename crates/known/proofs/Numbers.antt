-- A test of every number below another or in a list, or of some.
use Rattle.std.proofs.Common.{ℕ, zero, suc, ◌<◌, Bool, true, false, ◌&&◌, ◌||◌, T, eqb, List, [], ◌∷◌, sym, subst, inl, inr, arith, eqb→eq}
use Rattle.std.proofs.lemmas.Bool.{cases_eq}
use Rattle.execution.specs.Lists.{holds}
use Rattle.execution.proofs.Tests.{both, left, right, either}
use Rattle.verdict.proofs.Lists.{or_left, or_right}

abbrev pub every : ℕ → (ℕ → Bool) → Bool
every zero p = true
every (suc n) p = p n && every n p

abbrev pub some : ℕ → (ℕ → Bool) → Bool
some zero p = false
some (suc n) p = p n || some n p

abbrev pub each : List ℕ → (ℕ → Bool) → Bool
each [] p = true
each (x ∷ xs) p = p x && each xs p

pub every_at : (n : ℕ) (p : ℕ → Bool) → T (every n p) → (a : ℕ) → a < n → T (p a)
every_at zero p h a l = absurd (omega arith)
every_at (suc n) p h a l = elim (cases_eq a n) [
  | inl e ↦ subst (λ x. T (p x)) (sym e) (left (p n) _ h)
  | inr k ↦ every_at n p (right (p n) _ h) a (omega arith)
]

pub every_from : (n : ℕ) (p : ℕ → Bool) → ((a : ℕ) → a < n → T (p a)) → T (every n p)
every_from zero p f = tt
every_from (suc n) p f = both (p n) _ (f n (omega arith)) (every_from n p (λ a l. f a (omega arith)))

pub some_from : (n : ℕ) (p : ℕ → Bool) (a : ℕ) → a < n → T (p a) → T (some n p)
some_from zero p a l h = absurd (omega arith)
some_from (suc n) p a l h = elim (cases_eq a n) [
  | inl e ↦ or_left (p n) _ (subst (λ x. T (p x)) e h)
  | inr k ↦ or_right (p n) _ (some_from n p a (omega arith) h)
]

pub some_at : (n : ℕ) (p : ℕ → Bool) → T (some n p) → (a : ℕ) × (a < n) × T (p a)
some_at zero p h = elim h [ ]
some_at (suc n) p h = elim (either (p n) _ h) [
  | inl k ↦ (n, omega arith, k)
  | inr k ↦ let r = some_at n p k in (r.0, omega (arith, r.1), r.2)
]

pub each_at : (xs : List ℕ) (p : ℕ → Bool) → T (each xs p) → (a : ℕ) → T (holds xs a) → T (p a)
each_at [] p h a k = elim k [ ]
each_at (x ∷ xs) p h a k = elim (either (eqb x a) (holds xs a) k) [
  | inl e ↦ subst (λ y. T (p y)) (eqb→eq x a e) (left (p x) _ h)
  | inr j ↦ each_at xs p (right (p x) _ h) a j
]
