-- What a table holds after relations were added to it, one after another.
use Rattle.std.proofs.Common.{◌≡◌, ℕ, Bool, true, false, ◌&&◌, ◌||◌, eqb, arith}
use Rattle.std.proofs.lemmas.Bool.Decides.{nat_tests}

-- what is added of another table, by what that holds
pub part_of : (t u h r l : Bool) → h ≡ r → u ≡ ((h && l) || t) → u ≡ ((r && l) || t)
part_of t u h r l p q = grind arith

-- two, three and four relations added to none
pub two : (t u v a b : Bool) → t ≡ false → u ≡ (a || t) → v ≡ (b || u) → v ≡ (a || b)
two t u v a b p q r = grind arith

pub three : (t u v w a b c : Bool) → t ≡ false → u ≡ (a || t) → v ≡ (b || u) → w ≡ (c || v) → w ≡ (a || (b || c))
three t u v w a b c p q r s = grind arith

pub four : (t u v w x a b c d : Bool) → t ≡ false → u ≡ (a || t) → v ≡ (b || u) → w ≡ (c || v) → x ≡ (d || w) → x ≡ (a || (b || (c || d)))
four t u v w x a b c d p q r s e = grind arith

-- order 0
pub at_order : (k : ℕ) (t r : Bool) → k ≡ 0 → t ≡ r → t ≡ (eqb k 0 && r)
at_order k t r e p = grind (arith, nat_tests)

-- four relations added in order 1 to what holds pairs in order 0 alone
pub at_next_order : (k : ℕ) (t u v w x r a b c d : Bool) → k ≡ 1 → t ≡ (eqb k 0 && r) → u ≡ (a || t) → v ≡ (b || u) → w ≡ (c || v) → x ≡ (d || w) → x ≡ ((eqb k 0 && r) || (eqb k 1 && (a || (b || (c || d)))))
at_next_order k t u v w x r a b c d e p q m n o =
    let z : eqb k 0 ≡ false = grind (arith, nat_tests) in
    let y : eqb k 1 ≡ true = grind (arith, nat_tests) in
    go (eqb k 0) (eqb k 1) z y p
  where
    go : (i j : Bool) → i ≡ false → j ≡ true → t ≡ (i && r) → x ≡ ((i && r) || (j && (a || (b || (c || d)))))
    go i j z y h = grind arith
