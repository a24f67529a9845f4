-- More events than there are numbers for them repeat one; so a long way goes round.
use Rattle.std.proofs.Common.{◌≡◌, ℕ, zero, suc, ◌+◌, ◌<◌, ◌≤◌, Bool, false, cond, ◌||◌, T, eqb, ◌⊎◌, List, [], ◌∷◌, ◌++◌, length, refl, ap, subst, inl, inr, arith, eqb→eq, length-append}
use Rattle.std.specs.List.{AllByRecursion}
use Rattle.std.proofs.lemmas.Bool.{cases_eq, cases_lt}
use Rattle.std.proofs.lemmas.Bool.Decides.{nat_tests}
use Rattle.cycles.specs.Cycles.{Leads, Cycle, Cyclic}
use Rattle.cycles.specs.Listings.{stands}
use Rattle.cycles.proofs.Tests.{test}
use Rattle.cycles.proofs.Walks.{Inside, leads_split, leads_inside}

-- no event stands twice in the list
abbrev pub Distinct : List ℕ → Type 0
Distinct [] = Unit {0}
Distinct (x ∷ xs) = (T (stands xs x) → ⊥) × Distinct xs

-- an event that stands twice, with what stands before, between and after
pub record Repeat (xs : List ℕ) : Type 0 where
  pub before : List ℕ
  pub event : ℕ
  pub between : List ℕ
  pub after : List ℕ
  pub is : xs ≡ before ++ (event ∷ (between ++ (event ∷ after)))

-- a list parts at an event that stands in it
pub parts : (xs : List ℕ) (a : ℕ) → T (stands xs a) → (ys : List ℕ) × (zs : List ℕ) × (xs ≡ ys ++ (a ∷ zs))
parts [] a h = elim h [ ]
parts (x ∷ xs) a h = elim (test (eqb x a)) [
  | inl e ↦ ([], xs, ap (λ y. y ∷ xs) (eqb→eq x a e))
  | inr n ↦
      let r = parts xs a (let rest : T (stands xs a) = grind arith in rest) in
      (x ∷ r.0, r.1, ap (λ (l : List ℕ). x ∷ l) r.2)
]

repeat_or_distinct : (xs : List ℕ) → Repeat xs ⊎ Distinct xs
repeat_or_distinct [] = inr tt
repeat_or_distinct (x ∷ xs) = elim (test (stands xs x)) [
  | inl h ↦
      let p = parts xs x h in
      inl record { before = []; event = x; between = p.0; after = p.1; is = ap (λ (l : List ℕ). x ∷ l) p.2 }
  | inr n ↦ elim (repeat_or_distinct xs) [
    | inl r ↦ inl record { before = x ∷ r.before; event = r.event; between = r.between; after = r.after; is = ap (λ (l : List ℕ). x ∷ l) r.is }
    | inr d ↦ inr (n, d)
  ]
]

-- how many numbers below n pass
abbrev pub count : ℕ → (ℕ → Bool) → ℕ
count zero p = 0
count (suc n) p = cond (p n) 1 0 + count n p

pub count_bound : (n : ℕ) (p : ℕ → Bool) → count n p ≤ n
count_bound zero p = omega arith
count_bound (suc n) p = let ih = count_bound n p in grind arith

pub count_same : (n : ℕ) (p q : ℕ → Bool) → ((c : ℕ) → c < n → p c ≡ q c) → count n p ≡ count n q
count_same zero p q f = refl
count_same (suc n) p q f =
    let ih = count_same n p q (λ c l. f c (omega arith)) in
    let here = f n (omega arith) in
    grind arith

count_within : (n : ℕ) (p q : ℕ → Bool) → ((c : ℕ) → c < n → T (p c) → T (q c)) → count n p ≤ count n q
count_within zero p q f = omega arith
count_within (suc n) p q f = let ih = count_within n p q (λ c l. f c (omega arith)) in let here = f n (omega arith) in grind arith

pub count_less : (n : ℕ) (p q : ℕ → Bool) → ((c : ℕ) → c < n → T (p c) → T (q c)) → (x : ℕ) → x < n → T (q x) → (T (p x) → ⊥) → count n p < count n q
count_less zero p q f x l h new = absurd (omega arith)
count_less (suc n) p q f x l h new = elim (cases_eq x n) [
  | inl e ↦
      let rest = count_within n p q (λ c k. f c (omega arith)) in
      let old = subst (λ y. T (q y)) e h in
      let none = subst (λ y. T (p y) → ⊥) e new in
      grind arith
  | inr k ↦
      let ih = count_less n p q (λ c k. f c (omega arith)) x (omega arith) h new in
      let here = f n (omega arith) in
      grind arith
]

pub count_more : (n x : ℕ) (p : ℕ → Bool) → x < n → (T (p x) → ⊥) → count n (λ y. eqb x y || p y) ≡ suc (count n p)
count_more zero x p l new = absurd (omega arith)
count_more (suc n) x p l new = elim (cases_eq x n) [
  | inl e ↦
      let rest = count_same n (λ y. eqb x y || p y) p (λ c k. grind (arith, nat_tests)) in
      let none = subst (λ y. T (p y) → ⊥) e new in
      grind (arith, nat_tests)
  | inr k ↦
      let ih = count_more n x p (omega arith) new in
      grind (arith, nat_tests)
]

pub distinct_count : (n : ℕ) (xs : List ℕ) → Distinct xs → AllByRecursion (λ x. x < n) xs → count n (stands xs) ≡ length xs
distinct_count n [] d l = none n
  where
    none : (n : ℕ) → count n (λ _. false) ≡ 0
    none zero = refl
    none (suc n) = let ih = none n in omega arith
distinct_count n (x ∷ xs) d l =
    let ih = distinct_count n xs d.1 l.1 in
    let more = count_more n x (stands xs) l.0 d.0 in
    omega arith

pub distinct_bound : (n : ℕ) (xs : List ℕ) → Distinct xs → AllByRecursion (λ x. x < n) xs → length xs ≤ n
distinct_bound n xs d l = omega (arith, distinct_count n xs d l, count_bound n (stands xs))

pub repeat_of_long : (n : ℕ) (xs : List ℕ) → AllByRecursion (λ x. x < n) xs → n < length xs → Repeat xs
repeat_of_long n xs l h = elim (repeat_or_distinct xs) [
  | inl r ↦ r
  | inr d ↦ absurd (omega (arith, distinct_bound n xs d l))
]

module _ (r : ℕ → ℕ → Bool) where
  -- between the two places of an event the way goes round
  goes_round : (a : ℕ) (xs : List ℕ) (z : ℕ) (ys : List ℕ) (e : ℕ) (zs ws : List ℕ)
      → (a ∷ xs) ≡ ys ++ (e ∷ (zs ++ (e ∷ ws))) → Leads r a xs z → Leads r e zs e
  goes_round a xs z [] e zs ws is h =
      let same : a ≡ e = cc in
      let rest : xs ≡ zs ++ (e ∷ ws) = cc in
      subst (λ x. Leads r x zs e) same (leads_split r a zs e ws z (subst (λ (l : List ℕ). Leads r a l z) rest h)).0
  goes_round a xs z (y ∷ ys) e zs ws is h =
      let rest : xs ≡ ys ++ (e ∷ (zs ++ (e ∷ ws))) = cc in
      let later = (leads_split r a ys e (zs ++ (e ∷ ws)) z (subst (λ (l : List ℕ). Leads r a l z) rest h)).1 in
      (leads_split r e zs e ws z later).0

  pub repeat_round : (a : ℕ) (xs : List ℕ) (z : ℕ) → Leads r a xs z → (p : Repeat (a ∷ xs)) → Leads r p.event p.between p.event
  repeat_round a xs z h p = goes_round a xs z p.before p.event p.between p.after p.is h

  module _ (n : ℕ) (inside : Inside n r) where
    -- where there is a cycle, there is one of at most n events
    short : (fuel : ℕ) (xs : List ℕ) → length xs ≤ fuel → Cycle r xs → (ys : List ℕ) × Cycle r ys × (length ys ≤ n)
    short fuel [] l h = elim h [ ]
    short zero (a ∷ xs) l h = absurd (omega arith)
    short (suc fuel) (a ∷ xs) l h = elim (cases_lt n (length (a ∷ xs))) [
      | inr k ↦ (a ∷ xs, h, k)
      | inl k ↦
          let p = repeat_of_long n (a ∷ xs) (leads_inside r n inside a xs a h) k in
          let lengths = ap length p.is in
          let outer = length-append p.before (p.event ∷ (p.between ++ (p.event ∷ p.after))) in
          let inner = length-append p.between (p.event ∷ p.after) in
          short fuel (p.event ∷ p.between) (omega arith) (repeat_round a xs a h p)
    ]

    pub short_cycle : (xs : List ℕ) → Cycle r xs → (ys : List ℕ) × Cycle r ys × (length ys ≤ n)
    short_cycle xs h = short (length xs) xs (omega arith) h

    -- where each event of a set has a predecessor in the set, there is a cycle
    module _ (s : ℕ → Bool) (each : (a : ℕ) → T (s a) → (p : ℕ) × T (s p) × T (r p a)) where
      back : (k a : ℕ) → T (s a) → (x : ℕ) × (xs : List ℕ) × (length xs ≡ k) × T (s x) × Leads r x xs a
      back zero a h = let p = each a h in (p.0, [], refl, p.1, p.2)
      back (suc k) a h =
          let w = back k a h in
          let p = each w.0 w.3 in
          (p.0, w.0 ∷ w.1, ap suc w.2, p.1, (p.2, w.4))

      pub stuck_round : (a : ℕ) → T (s a) → Cyclic r
      stuck_round a h =
          let w = back n a h in
          let p = repeat_of_long n (w.0 ∷ w.1) (leads_inside r n inside w.0 w.1 a w.4) (omega arith) in
          (p.event ∷ p.between, repeat_round w.0 w.1 a w.4 p)
