-- A write put directly after another: what then stands before what.
use Rattle.std.proofs.Common.{◌≡◌, ℕ, Bool, false, ◌&&◌, ◌||◌, T, eqb, ◌⊎◌, List, [], ◌∷◌, sym, inl, inr, arith, eqb→eq}
use lib.Dec.{eqb_refl}
use Rattle.execution.specs.Lists.{holds, precedes, distinct, insert_after}
use Rattle.execution.proofs.Tests.{both, left, right, either}
use Rattle.execution.proofs.Lists.{precedes_first, precedes_second, insert_after_it}
use Rattle.verdict.proofs.Lists.{or_left, or_right, test}

pub insert_holds_new : (v w : ℕ) (xs : List ℕ) → T (holds xs v) → T (holds (insert_after v w xs) w)
insert_holds_new v w xs h = precedes_second (insert_after v w xs) v w (insert_after_it v w xs h)

insert_holds_after : (v w : ℕ) (xs : List ℕ) (a : ℕ) → T (holds (insert_after v w xs) a) → T (holds xs a) ⊎ ((w ≡ a) × T (holds xs v))
insert_holds_after v w [] a h = inl h
insert_holds_after v w (x ∷ xs) a h = let ih = insert_holds_after v w xs a in grind arith

-- what a list with w after v has in order
pub insert_precedes : (v w : ℕ) (xs : List ℕ) (a b : ℕ) → T (distinct xs) → (T (holds xs w) → ⊥) → T (precedes (insert_after v w xs) a b)
    → T (precedes xs a b) ⊎ (((b ≡ w) × ((a ≡ v) ⊎ T (precedes xs a v))) ⊎ ((a ≡ w) × T (precedes xs v b)))
insert_precedes v w [] a b d n h = elim h [ ]
insert_precedes v w (x ∷ xs) a b d n h = let ih = insert_precedes v w xs a b in let k = insert_holds_after v w xs b in grind arith

-- what stands after v stands after a write put there
pub insert_before_rest : (v w : ℕ) (xs : List ℕ) (b : ℕ) → T (distinct xs) → T (precedes xs v b) → T (precedes (insert_after v w xs) w b)
insert_before_rest v w [] b d h = h
insert_before_rest v w (x ∷ xs) b d h =
    let ih = insert_before_rest v w xs b in
    let k = precedes_first xs v b in
    let e = eqb_refl w in
    grind arith

-- some that passes stands before w
pub some_before : (ℕ → Bool) → List ℕ → ℕ → Bool
some_before p [] w = false
some_before p (x ∷ xs) w = (p x && holds xs w) || some_before p xs w

pub before_some : (p : ℕ → Bool) (xs : List ℕ) (w c : ℕ) → T (p c) → T (precedes xs c w) → T (some_before p xs w)
unfolding some_before
before_some p [] w c t h = h
before_some p (x ∷ xs) w c t h = let ih = before_some p xs w c in grind arith

-- the last before w that passes
pub record Last (p : ℕ → Bool) (xs : List ℕ) (w v : ℕ) : Type 0 where
  pub passes : T (p v)
  pub before : T (precedes xs v w)
  pub last : (c : ℕ) → T (p c) → T (precedes xs c w) → (c ≡ v) ⊎ T (precedes xs c v)

first_of : (x y : Bool) → T (x || y) → (T y → ⊥) → T x
first_of x y h n = grind arith

further : (x : ℕ) (xs : List ℕ) (c w v : ℕ) → T (holds xs v) → (T (precedes xs c w) → (c ≡ v) ⊎ T (precedes xs c v)) → T (precedes (x ∷ xs) c w) → (c ≡ v) ⊎ T (precedes (x ∷ xs) c v)
further x xs c w v s z q = grind arith

pub find_last : (p : ℕ → Bool) (xs : List ℕ) (w : ℕ) → T (some_before p xs w) → (v : ℕ) × Last p xs w v
unfolding some_before
find_last p [] w h = elim h [ ]
find_last p (x ∷ xs) w h = elim (test (some_before p xs w)) [
  | inl k ↦
      let r = find_last p xs w k in (
        r.0,
        record {
          passes = r.1.passes;
          before = or_right (eqb x r.0 && holds xs w) _ r.1.before;
          last = λ c t q. let z = r.1.last c t in let s = precedes_first xs r.0 w r.1.before in further x xs c w r.0 s z q;
        },
      )
  | inr n ↦
      let here = first_of (p x && holds xs w) (some_before p xs w) h n in (
        x,
        record {
          passes = left (p x) _ here;
          before = or_left (eqb x x && holds xs w) _ (both (eqb x x) _ (eqb_refl x) (right (p x) _ here));
          last = λ c t q. elim (either (eqb x c && holds xs w) (precedes xs c w) q) [ inl e ↦ inl (sym (eqb→eq x c (left (eqb x c) _ e))) | inr e ↦ absurd (n (before_some p xs w c t e)) ];
        },
      )
]
