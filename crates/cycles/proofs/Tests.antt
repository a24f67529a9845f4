-- Tests that passed or failed.
use Rattle.std.proofs.Common.{◌≡◌, Bool, true, false, T, ◌⊎◌, sym, refl, subst, inl, inr}

pub passed : (b : Bool) → b ≡ true → T b
passed b e = subst T (sym e) tt

pub is_true : (b : Bool) → T b → b ≡ true
is_true true h = refl
is_true false h = elim h [ ]

pub failed : (b : Bool) → b ≡ false → T b → ⊥
failed b e h = subst T e h

pub is_false : (b : Bool) → (T b → ⊥) → b ≡ false
is_false true f = absurd (f tt)
is_false false f = refl

pub test : (b : Bool) → T b ⊎ (T b → ⊥)
test true = inl tt
test false = inr (λ h. h)
