-- How many numbers pass one test and another, and which is the lowest.
use Rattle.std.proofs.Common.{◌≡◌, ℕ, zero, suc, ◌<◌, ◌≤◌, Bool, T, Some, None, refl, subst, inl, inr, arith}
use Rattle.std.proofs.lemmas.Bool.{cases_eq}
use Rattle.verdict.specs.Numbers.{count, lowest}

pub count_at_most : (n : ℕ) (p q : ℕ → Bool) → ((c : ℕ) → c < n → T (p c) → T (q c)) → count n p ≤ count n q
count_at_most zero p q f = omega arith
count_at_most (suc n) p q f = let ih = count_at_most n p q (λ c l. f c (omega arith)) in let k = f n (omega arith) in grind arith

-- fewer pass the narrower test
pub count_less : (n : ℕ) (p q : ℕ → Bool) → ((c : ℕ) → c < n → T (p c) → T (q c)) → (v : ℕ) → v < n → T (q v) → (T (p v) → ⊥) → count n p < count n q
count_less zero p q f v l h k = absurd (omega arith)
count_less (suc n) p q f v l h k = elim (cases_eq v n) [
  | inl e ↦
      let ih = count_at_most n p q (λ c l. f c (omega arith)) in
      let h' = subst (λ x. T (q x)) e h in
      let k' = subst (λ x. T (p x) → ⊥) e k in
      grind arith
  | inr e ↦
      let ih = count_less n p q (λ c l. f c (omega arith)) v (omega arith) h k in
      let j = f n (omega arith) in
      grind arith
]

pub count_same : (n : ℕ) (p q : ℕ → Bool) → ((c : ℕ) → c < n → T (p c) → T (q c)) → ((c : ℕ) → c < n → T (q c) → T (p c)) → count n p ≡ count n q
count_same n p q f g = let a = count_at_most n p q f in let b = count_at_most n q p g in omega arith

-- none passes
pub lowest_none : (n : ℕ) (p : ℕ → Bool) → ((a : ℕ) → a < n → T (p a) → ⊥) → lowest n p ≡ None
lowest_none zero p f = refl
lowest_none (suc n) p f = let ih = lowest_none n p (λ a l. f a (omega arith)) in let here = f n (omega arith) in grind arith

-- a passes, and none below it
pub lowest_is : (n : ℕ) (p : ℕ → Bool) (a : ℕ) → a < n → T (p a) → ((b : ℕ) → b < a → T (p b) → ⊥) → lowest n p ≡ Some a
lowest_is zero p a l h f = absurd (omega arith)
lowest_is (suc n) p a l h f = elim (cases_eq a n) [
  | inl e ↦
      let none = lowest_none n p (λ b k. f b (omega arith)) in
      let passes = subst (λ x. T (p x)) e h in
      grind arith
  | inr ne ↦ let ih = lowest_is n p a (omega arith) h f in grind arith
]
