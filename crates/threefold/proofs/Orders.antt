-- What is added to a table, one relation after the other.
use Rattle.std.proofs.Common.{◌≡◌, ℕ, Bool, false, ◌&&◌, ◌||◌, eqb, arith}
use Rattle.std.proofs.lemmas.Bool.Decides.{nat_tests}

pub four_added : (p s f m b entry near with-f with-m all : Bool) → near ≡ ((p && s) || entry) → with-f ≡ (f || near) → with-m ≡ (m || with-f) → all ≡ (b || with-m)
    → all ≡ (((p && s) || (f || (m || b))) || entry)
four_added p s f m b entry near with-f with-m all i j k l = grind arith

module _ (k : ℕ) (first second third : Bool) where
  abbrev pub laid : Bool
  laid = (eqb k 0 && first) || ((eqb k 1 && second) || (eqb k 2 && third))

  pub is_first : (entry all : Bool) → k ≡ 0 → entry ≡ false → all ≡ (first || entry) → all ≡ laid
  is_first entry all e i j = grind (arith, nat_tests)

  pub is_second : (p q entry with-p all : Bool) → k ≡ 1 → second ≡ (p || q) → entry ≡ false → with-p ≡ (p || entry) → all ≡ (q || with-p) → all ≡ laid
  is_second p q entry with-p all e f i j l = grind (arith, nat_tests)

  pub is_third : (p q entry with-p all : Bool) → k ≡ 2 → third ≡ (p || q) → entry ≡ false → with-p ≡ (p || entry) → all ≡ (q || with-p) → all ≡ laid
  is_third p q entry with-p all e f i j l = grind (arith, nat_tests)
