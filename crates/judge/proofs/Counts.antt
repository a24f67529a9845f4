-- How many numbers pass a test.
use Rattle.std.proofs.Common.{◌≡◌, ℕ, zero, suc, ◌+◌, ◌<◌, Bool, true, false, cond, T, List, [], ◌∷◌, length, get_or, filter, sym, refl, ap, ◌∙◌, subst, inl, inr, add-zero, add-one, arith}
use Rattle.std.specs.List.{range_with_len}
use Rattle.std.proofs.lemmas.List.FromFn.{length-range_with_len, get_or-range_with_len}
use Rattle.std.proofs.lemmas.Bool.{cases_eq}
use Rattle.verdict.specs.Numbers.{count}
use Rattle.verdict.proofs.Lists.{test}

pub count_none : (n : ℕ) (p : ℕ → Bool) → ((a : ℕ) → a < n → T (p a) → ⊥) → count n p ≡ 0
count_none zero p f = refl
count_none (suc n) p f = let ih = count_none n p (λ a l. f a (omega arith)) in let here = f n (omega arith) in grind arith

pub count_some : (n : ℕ) (p : ℕ → Bool) (a : ℕ) → a < n → T (p a) → 0 < count n p
count_some zero p a l h = absurd (omega arith)
count_some (suc n) p a l h = elim (cases_eq a n) [
  | inl e ↦ let here = subst (λ x. T (p x)) e h in grind arith
  | inr ne ↦ let ih = count_some n p a (omega arith) h in omega arith
]

pub count_witness : (n : ℕ) (p : ℕ → Bool) → 0 < count n p → (a : ℕ) × (a < n) × T (p a)
count_witness zero p h = absurd (omega arith)
count_witness (suc n) p h = elim (test (p n)) [
  | inl t ↦ (n, omega arith, t)
  | inr f ↦
      let less : 0 < count n p = grind arith in
      let w = count_witness n p less in
      (w.0, omega (arith, w.1), w.2)
]

one_longer : {X : Type 0} (b : Bool) (x : X) (xs : List X) → length (cond b (x ∷ xs) xs) ≡ cond b 1 0 + length xs
one_longer true x xs = omega arith
one_longer false x xs = omega arith

-- a list whose items pass just where the numbers from a on do
pub counted_by : {X : Type 0} (q : X → Bool) (p : ℕ → Bool) (d : X) (xs : List X) (a : ℕ) → ((i : ℕ) → i < length xs → p (a + i) ≡ q (get_or xs i d))
    → length (filter q xs) + count a p ≡ count (a + length xs) p
counted_by q p d [] a same = let e = ap (λ (n : ℕ). count n p) (sym (add-zero a)) in omega arith
counted_by q p d (x ∷ xs) a same =
    let later : (i : ℕ) → i < length xs → p (a + 1 + i) ≡ q (get_or xs i d) = λ i l. let e : a + 1 + i ≡ a + suc i = omega arith in ap p e ∙ same (suc i) (omega arith) in
    let rest = counted_by q p d xs (a + 1) later in
    let here : p a ≡ q x = ap p (sym (add-zero a)) ∙ same 0 (omega arith) in
    let end : a + 1 + length xs ≡ a + suc (length xs) = omega arith in
    omega (arith, rest, one_longer (q x) x (filter q xs), ap {B = ℕ} (λ (b : Bool). cond b 1 0) here, ap (λ (n : ℕ). count n p) (add-one a), ap (λ (n : ℕ). count n p) end)

-- the numbers below n that pass
pub range_counted : (p : ℕ → Bool) (n : ℕ) → length (filter p (range_with_len 0 n)) ≡ count n p
range_counted p n =
    let all = counted_by p p 0 (range_with_len 0 n) 0 (λ i l. ap p (sym (get_or-range_with_len 0 n i 0 (omega (arith, length-range_with_len 0 n))))) in
    let many : 0 + length (range_with_len 0 n) ≡ n = omega (arith, length-range_with_len 0 n) in
    omega (arith, all, ap (λ (k : ℕ). count k p) many)
