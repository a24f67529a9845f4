-- Lists of events: what a filter leaves in order, and lists without repetition.
use Rattle.std.proofs.Common.{◌≡◌, ℕ, Bool, true, false, not, ◌&&◌, ◌||◌, T, eqb, ◌⊎◌, List, [], ◌∷◌, map, filter, sym, refl, ◌∙◌, subst, ap₂, inl, inr, arith, eqb→eq}
use lib.Dec.{eqb_refl}
use Rattle.std.proofs.lemmas.Bool.{cases_eq}
use Rattle.execution.specs.Lists.{holds, precedes, distinct}
use Rattle.execution.proofs.Tests.{both, left, right, either, yes_no}
use Rattle.execution.proofs.Lists.{precedes_first, precedes_second, kept_holds}

pub or_left : (x y : Bool) → T x → T (x || y)
or_left true y p = tt
or_left false y p = elim p [ ]

pub or_right : (x y : Bool) → T y → T (x || y)
or_right true y p = tt
or_right false y p = p

pub test : (x : Bool) → T x ⊎ (T x → ⊥)
test true = inl tt
test false = inr (λ p. p)

-- what a filter leaves
pub holds_kept : (p : ℕ → Bool) (xs : List ℕ) (a : ℕ) → T (holds xs a) → T (p a) → T (holds (filter p xs) a)
holds_kept p [] a h q = elim h [ ]
holds_kept p (x ∷ xs) a h q = let ih = λ (k : T (holds xs a)). holds_kept p xs a k q in grind arith

pub kept_precedes : (p : ℕ → Bool) (xs : List ℕ) (a b : ℕ) → T (precedes (filter p xs) a b) → T (precedes xs a b)
kept_precedes p [] a b h = elim h [ ]
kept_precedes p (x ∷ xs) a b h = let ih = kept_precedes p xs a b in let k = kept_holds p xs b in grind arith

pub precedes_kept : (p : ℕ → Bool) (xs : List ℕ) (a b : ℕ) → T (precedes xs a b) → T (p a) → T (p b) → T (precedes (filter p xs) a b)
precedes_kept p [] a b h q r = elim h [ ]
precedes_kept p (x ∷ xs) a b h q r =
    let ih = λ (k : T (precedes xs a b)). precedes_kept p xs a b k q r in
    let k = λ (j : T (holds xs b)). holds_kept p xs b j r in
    grind arith

-- in a list without repetition
pub precedes_one_way : (xs : List ℕ) (a b : ℕ) → T (distinct xs) → T (precedes xs a b) → T (precedes xs b a) → ⊥
precedes_one_way [] a b d h k = h
precedes_one_way (x ∷ xs) a b d h k =
    let ih = precedes_one_way xs a b in
    let s = precedes_second xs a b in
    let t = precedes_second xs b a in
    grind arith

pub precedes_some_way : (xs : List ℕ) (a b : ℕ) → T (holds xs a) → T (holds xs b) → (a ≡ b → ⊥) → T (precedes xs a b) ⊎ T (precedes xs b a)
precedes_some_way [] a b h k n = elim h [ ]
precedes_some_way (x ∷ xs) a b h k n = let ih = λ (i : T (holds xs a)) (j : T (holds xs b)). precedes_some_way xs a b i j n in grind arith

pub precedes_trans : (xs : List ℕ) (a b c : ℕ) → T (distinct xs) → T (precedes xs a b) → T (precedes xs b c) → T (precedes xs a c)
precedes_trans [] a b c d h k = h
precedes_trans (x ∷ xs) a b c d h k =
    let ih = precedes_trans xs a b c in
    let s = precedes_second xs a b in
    let t = precedes_second xs b c in
    grind arith

pub never_before_itself : (xs : List ℕ) (a : ℕ) → T (distinct xs) → T (precedes xs a a) → ⊥
never_before_itself xs a d h = precedes_one_way xs a a d h h

first_or_later : (z : ℕ) (zs : List ℕ) (a : ℕ) → T (holds (z ∷ zs) a) → (z ≡ a → ⊥) → T (holds zs a)
first_or_later z zs a h n = elim (either (eqb z a) (holds zs a) h) [ inl q ↦ absurd (n (eqb→eq z a q)) | inr k ↦ k ]

head_first : (z : ℕ) (zs : List ℕ) (a : ℕ) → T (holds zs a) → T (precedes (z ∷ zs) z a)
head_first z zs a h = or_left (eqb z z && holds zs a) _ (both (eqb z z) _ (eqb_refl z) h)

not_head : (z : ℕ) (zs : List ℕ) (a : ℕ) → T (distinct (z ∷ zs)) → T (holds zs a) → z ≡ a → ⊥
not_head z zs a u h q = yes_no (holds zs z) (left (not (holds zs z)) _ u) (subst (λ w. T (holds zs w)) (sym q) h)

-- two lists without repetition, of which the one holds what the other does, in the same order
pub record Alike (xs ys : List ℕ) : Type 0 where
  pub once : T (distinct xs)
  pub once_too : T (distinct ys)
  pub into : (a : ℕ) → T (holds xs a) → T (holds ys a)
  pub back : (a : ℕ) → T (holds ys a) → T (holds xs a)
  pub order : (a b : ℕ) → T (precedes xs a b) → T (precedes ys a b)

alike_heads : (x : ℕ) (xs : List ℕ) (y : ℕ) (ys : List ℕ) → Alike (x ∷ xs) (y ∷ ys) → x ≡ y
alike_heads x xs y ys l = elim (cases_eq x y) [
  | inl q ↦ q
  | inr n ↦
      let later = first_or_later y ys x (l.into x (or_left (eqb x x) _ (eqb_refl x))) (λ q. n (sym q)) in
      let sooner = first_or_later x xs y (l.back y (or_left (eqb y y) _ (eqb_refl y))) n in
      absurd (precedes_one_way (y ∷ ys) x y l.once_too (l.order x y (head_first x xs y sooner)) (head_first y ys x later))
]

alike_tails : (x : ℕ) (xs : List ℕ) (y : ℕ) (ys : List ℕ) → x ≡ y → Alike (x ∷ xs) (y ∷ ys) → Alike xs ys
alike_tails x xs y ys q l = record {
  once = right (not (holds xs x)) _ l.once;
  once_too = right (not (holds ys y)) _ l.once_too;
  into = λ a h. first_or_later y ys a (l.into a (or_right (eqb x a) _ h)) (λ r. not_head x xs a l.once h (q ∙ r));
  back = λ a h. first_or_later x xs a (l.back a (or_right (eqb y a) _ h)) (λ r. not_head y ys a l.once_too h (sym q ∙ r));
  order = λ a b h. elim (either (eqb y a && holds ys b) (precedes ys a b) (l.order a b (or_right (eqb x a && holds xs b) _ h))) [
    | inl k ↦ absurd (not_head x xs a l.once (precedes_first xs a b h) (q ∙ eqb→eq y a (left (eqb y a) _ k)))
    | inr k ↦ k
  ];
}

-- are equal
pub alike_same : (xs ys : List ℕ) → Alike xs ys → xs ≡ ys
alike_same [] [] l = refl
alike_same [] (y ∷ ys) l = absurd (l.back y (or_left (eqb y y) _ (eqb_refl y)))
alike_same (x ∷ xs) [] l = absurd (l.into x (or_left (eqb x x) _ (eqb_refl x)))
alike_same (x ∷ xs) (y ∷ ys) l = let q = alike_heads x xs y ys l in ap₂ (λ (z : ℕ) (zs : List ℕ). z ∷ zs) q (alike_same xs ys (alike_tails x xs y ys q l))

pub map_same : (f g : ℕ → List ℕ) → ((x : ℕ) → f x ≡ g x) → (xs : List ℕ) → map f xs ≡ map g xs
map_same f g e [] = refl
map_same f g e (x ∷ xs) = ap₂ (λ (y : List ℕ) (ys : List (List ℕ)). y ∷ ys) (e x) (map_same f g e xs)
