-- Tests joined and split.
use Rattle.std.proofs.Common.{◌≡◌, ℕ, Bool, true, false, not, ◌&&◌, ◌||◌, T, eqb, ◌⊎◌, sym, refl, subst, inl, inr}
use lib.Dec.{eqb_refl}

pub both : (x y : Bool) → T x → T y → T (x && y)
both true y p q = q
both false y p q = p

pub left : (x y : Bool) → T (x && y) → T x
left true y p = tt
left false y p = p

pub right : (x y : Bool) → T (x && y) → T y
right true y p = p
right false y p = elim p [ ]

pub either : (x y : Bool) → T (x || y) → T x ⊎ T y
either true y p = inl tt
either false y p = inr p

pub no : (x : Bool) → (T x → ⊥) → T (not x)
no true f = f tt
no false f = tt

pub yes_no : (x : Bool) → T (not x) → T x → ⊥
yes_no true p q = p
yes_no false p q = q

pub is_true : (x : Bool) → T x → x ≡ true
is_true true p = refl
is_true false p = elim p [ ]

pub truth : (x : Bool) → x ≡ true → T x
truth x e = subst T (sym e) tt

pub same : (a b : ℕ) → a ≡ b → T (eqb a b)
same a b e = subst (λ x. T (eqb a x)) e (eqb_refl a)
