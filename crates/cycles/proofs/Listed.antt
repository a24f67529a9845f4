-- Listings: as they grow, that they have no cycle, and that there is one at most.
use Rattle.std.proofs.Common.{◌≡◌, ℕ, zero, suc, ◌<◌, ◌≤◌, Bool, true, false, ◌||◌, T, eqb, ◌⊎◌, List, [], ◌∷◌, ◌++◌, length, sym, refl, ap, ◌∙◌, subst, inl, inr, append-nil, arith, eqb→eq, length-append}
use lib.Dec.{eqb_refl}
use lib.Seq.{append_snoc}
use Rattle.std.specs.List.{AllByRecursion}
use Rattle.std.proofs.lemmas.Bool.Decides.{nat_tests}
use Rattle.cycles.specs.Steps.{Plus, step}
use Rattle.cycles.specs.Cycles.{Acyclic}
use Rattle.cycles.specs.Listings.{stands, among, Ready, Listing}
use Rattle.cycles.specs.Laws.{OneListing}
use Rattle.cycles.proofs.Walks.{Inside, leads_inside, leads_plus, plus_last}
use Rattle.cycles.proofs.Repeats.{Distinct, parts, distinct_count, distinct_bound, count}

pub stands_append : (xs ys : List ℕ) (a : ℕ) → stands (xs ++ ys) a ≡ (stands xs a || stands ys a)
stands_append [] ys a = refl
stands_append (x ∷ xs) ys a = let ih = stands_append xs ys a in grind arith

pub stands_last : (xs : List ℕ) (x a : ℕ) → stands (xs ++ (x ∷ [])) a ≡ (stands xs a || eqb x a)
stands_last xs x a = let e = stands_append xs (x ∷ []) a in grind arith

pub among_inside : (n : ℕ) (r : ℕ → ℕ → Bool) → Inside n (among n r)
among_inside n r a b h = grind (arith, nat_tests)

-- a list with one more at the end, parted elsewhere
last_split : (ys : List ℕ) (a : ℕ) (us : List ℕ) (b : ℕ) (vs : List ℕ) → ys ++ (a ∷ []) ≡ us ++ (b ∷ vs)
    → ((us ≡ ys) × (b ≡ a)) ⊎ ((ws : List ℕ) × (ys ≡ us ++ (b ∷ ws)))
last_split [] a [] b vs e = inl (refl, cc)
last_split [] a (u ∷ us) b vs e =
    let lengths = ap length e in
    let rest = length-append us (b ∷ vs) in
    absurd (omega arith)
last_split (y ∷ ys) a [] b vs e = let same : y ≡ b = cc in inr (ys, ap (λ x. x ∷ ys) same)
last_split (y ∷ ys) a (u ∷ us) b vs e =
    let same : y ≡ u = cc in
    let rest : ys ++ (a ∷ []) ≡ us ++ (b ∷ vs) = cc in
    elim (last_split ys a us b vs rest) [
      | inl p ↦ let tails = p.0 in let heads = p.1 in inl (cc, heads)
      | inr p ↦ let tails = p.1 in inr (p.0, cc)
    ]

module _ (r : ℕ → ℕ → Bool) (n : ℕ) where
  -- what a listing begins with
  pub record Begun (ys : List ℕ) : Type 0 where
    pub ready : (us vs : List ℕ) (a : ℕ) → ys ≡ us ++ (a ∷ vs) → Ready r n us a
    pub lowest : (us vs : List ℕ) (a b : ℕ) → ys ≡ us ++ (a ∷ vs) → Ready r n us b → a ≤ b

  pub begun_none : Begun []
  begun_none = record {
    ready = λ us vs a e. absurd (never us vs a e);
    lowest = λ us vs a b e h. absurd (never us vs a e);
  }
    where
      never : (us vs : List ℕ) (a : ℕ) → [] ≡ us ++ (a ∷ vs) → ⊥
      never us vs a e = let lengths = ap length e in let rest = length-append us (a ∷ vs) in omega arith

  pub begun_more : (ys : List ℕ) (a : ℕ) → Begun ys → Ready r n ys a → ((b : ℕ) → Ready r n ys b → a ≤ b) → Begun (ys ++ (a ∷ []))
  begun_more ys a f h low = record {
    ready = λ us vs b e. elim (last_split ys a us b vs e) [
      | inl p ↦ subst (λ (l : List ℕ). Ready r n l b) (sym p.0) (subst (λ x. Ready r n ys x) (sym p.1) h)
      | inr p ↦ f.ready us p.0 b p.1
    ];
    lowest = λ us vs b d e k. elim (last_split ys a us b vs e) [
      | inl p ↦ let least = low d (subst (λ (l : List ℕ). Ready r n l d) p.0 k) in let same = p.1 in omega arith
      | inr p ↦ f.lowest us p.0 b d p.1 k
    ];
  }

  pub begun_distinct : (ys : List ℕ) → Begun ys → Distinct ys
  begun_distinct ys f = apart ys (λ us vs a e h. (f.ready us vs a e).new h)
    where
      apart : (xs : List ℕ) → ((us vs : List ℕ) (a : ℕ) → xs ≡ us ++ (a ∷ vs) → T (stands us a) → ⊥) → Distinct xs
      apart [] g = tt
      apart (x ∷ xs) g = (
        λ h.
            let p = parts xs x h in
            let here = eqb_refl x in
            g (x ∷ p.0) p.1 x (ap (λ (l : List ℕ). x ∷ l) p.2) (grind arith),
        apart xs (λ us vs a e h. g (x ∷ us) vs a (ap (λ (l : List ℕ). x ∷ l) e) (grind arith)),
      )

  pub begun_inside : (ys : List ℕ) → Begun ys → AllByRecursion (λ x. x < n) ys
  begun_inside ys f = go ys (λ us vs a e. (f.ready us vs a e).inside)
    where
      go : (xs : List ℕ) → ((us vs : List ℕ) (a : ℕ) → xs ≡ us ++ (a ∷ vs) → a < n) → AllByRecursion (λ x. x < n) xs
      go [] g = tt
      go (x ∷ xs) g = (g [] xs x refl, go xs (λ us vs a e. g (x ∷ us) vs a (ap (λ (l : List ℕ). x ∷ l) e)))

  pub begun_bound : (ys : List ℕ) → Begun ys → length ys ≤ n
  begun_bound ys f = distinct_bound n ys (begun_distinct ys f) (begun_inside ys f)

  pub begun_all : (xs : List ℕ) → Begun xs → ((a : ℕ) → a < n → T (stands xs a)) → Listing r n xs
  begun_all xs f all = record { all = all; ready = f.ready; lowest = f.lowest }

  pub listing_begun : (xs : List ℕ) → Listing r n xs → Begun xs
  listing_begun xs l = record { ready = l.ready; lowest = l.lowest }

  every : (m : ℕ) (p : ℕ → Bool) → ((a : ℕ) → a < m → T (p a)) → count m p ≡ m
  every zero p f = refl
  every (suc m) p f = let ih = every m p (λ a k. f a (omega arith)) in let here = f m (omega arith) in grind arith

  pub listing_length : (xs : List ℕ) → Listing r n xs → length xs ≡ n
  listing_length xs l =
      let f = listing_begun xs l in
      let counted = distinct_count n xs (begun_distinct xs f) (begun_inside xs f) in
      omega (arith, every n (stands xs) l.all)

  -- no event of a listing returns to itself
  module _ (xs : List ℕ) (l : Listing r n xs) where
    abbrev NoneReturns : List ℕ → Type 0
    NoneReturns seen = (p : ℕ) → T (stands seen p) → Plus (among n r) p p → ⊥

    new_returns : (seen : List ℕ) (a : ℕ) → Ready r n seen a → NoneReturns seen → Plus (among n r) a a → ⊥
    new_returns seen a h none p = elim (plus_last (among n r) p) [
      | inl k ↦ h.new (h.preceded a k)
      | inr w ↦ none w.0 (h.preceded w.0 w.2) (step w.2 w.1)
    ]

    grown : (seen : List ℕ) (a : ℕ) → Ready r n seen a → NoneReturns seen → NoneReturns (seen ++ (a ∷ []))
    grown seen a h none p k = elim (which (stands seen p) (eqb a p) (subst T (stands_last seen a p) k)) [
      | inl j ↦ none p j
      | inr j ↦ let P : ℕ → Type 0 = λ x. Plus (among n r) x x → ⊥ in subst P (eqb→eq a p j) (new_returns seen a h none)
    ]
      where
        which : (x y : Bool) → T (x || y) → T x ⊎ T y
        which true y q = inl tt
        which false y q = inr q

    all_grown : (seen rest : List ℕ) → xs ≡ seen ++ rest → NoneReturns seen → NoneReturns xs
    all_grown seen [] e none = let P : List ℕ → Type 0 = NoneReturns in subst P (sym (e ∙ append-nil seen)) none
    all_grown seen (a ∷ rest) e none =
        all_grown (seen ++ (a ∷ [])) rest (e ∙ sym (append_snoc seen a rest)) (grown seen a (l.ready seen rest a e) none)

    pub none_return : NoneReturns xs
    none_return = all_grown [] xs refl (λ p h. elim h [ ])

pub listed_is_acyclic : (r : ℕ → ℕ → Bool) (n : ℕ) (xs : List ℕ) → Listing r n xs → Acyclic (among n r)
listed_is_acyclic r n xs l [] h = h
listed_is_acyclic r n xs l (a ∷ ys) h =
    let low = (leads_inside (among n r) n (among_inside n r) a ys a h).0 in
    none_return r n xs l a (l.all a low) (leads_plus (among n r) a ys a h)

pub one_listing : OneListing
one_listing r n xs ys l k = go [] xs ys refl refl
  where
    go : (seen us vs : List ℕ) → xs ≡ seen ++ us → ys ≡ seen ++ vs → us ≡ vs
    go seen [] [] e f = refl
    go seen [] (v ∷ vs) e f =
        let h = k.ready seen vs v f in
        absurd (h.new (subst (λ (q : List ℕ). T (stands q v)) (e ∙ append-nil seen) (l.all v h.inside)))
    go seen (u ∷ us) [] e f =
        let h = l.ready seen us u e in
        absurd (h.new (subst (λ (q : List ℕ). T (stands q u)) (f ∙ append-nil seen) (k.all u h.inside)))
    go seen (u ∷ us) (v ∷ vs) e f =
        let up = l.lowest seen us u v e (k.ready seen vs v f) in
        let down = k.lowest seen vs v u f (l.ready seen us u e) in
        let same : u ≡ v = omega arith in
        let first : ys ≡ seen ++ (u ∷ vs) = f ∙ ap (λ x. seen ++ (x ∷ vs)) (sym same) in
        let rest = go (seen ++ (u ∷ [])) us vs (e ∙ sym (append_snoc seen u us)) (first ∙ sym (append_snoc seen u vs)) in
        cc
