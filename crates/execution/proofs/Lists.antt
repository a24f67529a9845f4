-- Lists of event numbers: what stands where, and one number put directly after another.
use Rattle.std.proofs.Common.{◌≡◌, ℕ, zero, suc, ◌<◌, ◌≤◌, Bool, false, not, T, eqb, ◌⊎◌, List, [], ◌∷◌, ◌++◌, length, get_or, filter, refl, ap, ◌∙◌, inl, inr, arith, length-append}
use lib.ListN.{get_or-append}
use lib.Seq.{get_or-append_seam}
use Rattle.std.proofs.lemmas.Bool.{cases_lt}
use Rattle.execution.specs.Lists.{holds, precedes, distinct, upto, insert_after}

pub precedes_first : (xs : List ℕ) (a b : ℕ) → T (precedes xs a b) → T (holds xs a)
precedes_first [] a b h = elim h [ ]
precedes_first (x ∷ xs) a b h = let ih = precedes_first xs a b in grind arith

pub precedes_second : (xs : List ℕ) (a b : ℕ) → T (precedes xs a b) → T (holds xs b)
precedes_second [] a b h = elim h [ ]
precedes_second (x ∷ xs) a b h = let ih = precedes_second xs a b in grind arith

-- what a filter leaves
pub kept_holds : (p : ℕ → Bool) (xs : List ℕ) (a : ℕ) → T (holds (filter p xs) a) → T (holds xs a)
kept_holds p [] a h = elim h [ ]
kept_holds p (x ∷ xs) a h = let ih = λ (k : T (holds (filter p xs) a)). kept_holds p xs a k in grind arith

pub kept_passes : (p : ℕ → Bool) (xs : List ℕ) (a : ℕ) → T (holds (filter p xs) a) → T (p a)
kept_passes p [] a h = elim h [ ]
kept_passes p (x ∷ xs) a h = let ih = λ (k : T (holds (filter p xs) a)). kept_passes p xs a k in grind arith

pub kept_distinct : (p : ℕ → Bool) (xs : List ℕ) → T (distinct xs) → T (distinct (filter p xs))
kept_distinct p [] h = tt
kept_distinct p (x ∷ xs) h = let ih = kept_distinct p xs in let k = kept_holds p xs x in grind arith

-- distinct numbers below n are at most n
kept_most : (n : ℕ) (xs : List ℕ) → T (distinct xs) → length xs ≤ suc (length (filter (λ a. not (eqb a n)) xs)) × (holds xs n ≡ false → length xs ≤ length (filter (λ a. not (eqb a n)) xs))
kept_most n [] d = (omega arith, λ h. omega arith)
kept_most n (x ∷ xs) d = let ih = kept_most n xs in grind arith

pub few_distinct : (n : ℕ) (xs : List ℕ) → T (distinct xs) → ((a : ℕ) → T (holds xs a) → a < n) → length xs ≤ n
few_distinct zero [] d h = omega arith
few_distinct zero (x ∷ xs) d h = let l : x < 0 = h x (grind arith) in absurd (omega arith)
few_distinct (suc n) xs d h =
    let most = (kept_most n xs d).0 in
    let ih = few_distinct n (filter (λ a. not (eqb a n)) xs) (kept_distinct (λ a. not (eqb a n)) xs d) (λ a k. let below : a < suc n = h a (kept_holds (λ a. not (eqb a n)) xs a k) in let other : T (not (eqb a n)) = kept_passes (λ a. not (eqb a n)) xs a k in grind arith) in
    omega arith

pub holds_insert : (v w : ℕ) (xs : List ℕ) (a : ℕ) → T (holds xs a) → T (holds (insert_after v w xs) a)
holds_insert v w [] a h = h
holds_insert v w (x ∷ xs) a h = let ih = holds_insert v w xs a in grind arith

pub insert_holds : (v w : ℕ) (xs : List ℕ) (a : ℕ) → T (holds (insert_after v w xs) a) → T (holds xs a) ⊎ (w ≡ a)
insert_holds v w [] a h = inl h
insert_holds v w (x ∷ xs) a h = let ih = insert_holds v w xs a in grind arith

pub insert_distinct : (v w : ℕ) (xs : List ℕ) → T (distinct xs) → (T (holds xs w) → ⊥) → T (distinct (insert_after v w xs))
insert_distinct v w [] d n = tt
insert_distinct v w (x ∷ xs) d n = let ih = insert_distinct v w xs in let k = insert_holds v w xs x in grind arith

pub precedes_insert : (v w : ℕ) (xs : List ℕ) (a b : ℕ) → T (precedes xs a b) → T (precedes (insert_after v w xs) a b)
precedes_insert v w [] a b h = h
precedes_insert v w (x ∷ xs) a b h = let ih = precedes_insert v w xs a b in let k = holds_insert v w xs b in grind arith

insert_holds_new : (v w : ℕ) (xs : List ℕ) → T (holds xs v) → T (holds (insert_after v w xs) w)
insert_holds_new v w [] h = h
insert_holds_new v w (x ∷ xs) h = let ih = insert_holds_new v w xs in grind arith

-- the new number stands after the one named
pub insert_after_it : (v w : ℕ) (xs : List ℕ) → T (holds xs v) → T (precedes (insert_after v w xs) v w)
insert_after_it v w [] h = h
insert_after_it v w (x ∷ xs) h = let ih = insert_after_it v w xs in let k = insert_holds_new v w xs in grind arith

-- and after what stands before that
pub insert_after_all : (v w : ℕ) (xs : List ℕ) (a : ℕ) → T (distinct xs) → T (precedes xs a v) → T (precedes (insert_after v w xs) a w)
insert_after_all v w [] a d h = h
insert_after_all v w (x ∷ xs) a d h = let ih = insert_after_all v w xs a in let k = insert_holds_new v w xs in let j = precedes_second xs a v in grind arith

holds_push : (xs : List ℕ) (n a : ℕ) → T (holds (xs ++ (n ∷ [])) a) → T (holds xs a) ⊎ (n ≡ a)
holds_push [] n a h = grind arith
holds_push (x ∷ xs) n a h = let ih = holds_push xs n a in grind arith

push_holds : (xs : List ℕ) (n a : ℕ) → T (holds xs a) ⊎ (n ≡ a) → T (holds (xs ++ (n ∷ [])) a)
push_holds [] n a h = grind arith
push_holds (x ∷ xs) n a h = let ih = push_holds xs n a in grind arith

push_distinct : (xs : List ℕ) (n : ℕ) → T (distinct xs) → (T (holds xs n) → ⊥) → T (distinct (xs ++ (n ∷ [])))
push_distinct [] n d h = tt
push_distinct (x ∷ xs) n d h = let ih = push_distinct xs n in let k = holds_push xs n x in grind arith

pub upto_below : (n a : ℕ) → T (holds (upto n) a) → a < n
upto_below zero a h = elim h [ ]
upto_below (suc n) a h = let ih = upto_below n a in let k = holds_push (upto n) n a h in grind arith

pub below_upto : (n a : ℕ) → a < n → T (holds (upto n) a)
below_upto zero a h = absurd (omega arith)
below_upto (suc n) a h = elim (cases_lt a n) [ inl l ↦ push_holds (upto n) n a (inl (below_upto n a l)) | inr l ↦ push_holds (upto n) n a (inr (omega arith)) ]

pub upto_distinct : (n : ℕ) → T (distinct (upto n))
upto_distinct zero = tt
upto_distinct (suc n) = push_distinct (upto n) n (upto_distinct n) (λ h. let l = upto_below n n h in omega arith)

pub upto_length : (n : ℕ) → length (upto n) ≡ n
upto_length zero = refl
upto_length (suc n) = let ih = upto_length n in omega (arith, length-append (upto n) (n ∷ []))

pub upto_at : (n a : ℕ) → a < n → get_or (upto n) a 0 ≡ a
upto_at zero a h = absurd (omega arith)
upto_at (suc n) a h = elim (cases_lt a n) [
  | inl l ↦ get_or-append (upto n) (n ∷ []) 0 a (omega (arith, upto_length n)) ∙ upto_at n a l
  | inr l ↦ let e : a ≡ length (upto n) = omega (arith, upto_length n) in ap (λ i. get_or (upto (suc n)) i 0) e ∙ get_or-append_seam (upto n) n [] 0 ∙ omega arith
]
