-- What stands in a list, by its index.
use Rattle.std.proofs.Common.{◌≡◌, ℕ, zero, suc, ◌<◌, not, ◌&&◌, T, eqb, List, [], ◌∷◌, length, get_or, inl, inr, arith, eqb→eq}
use Rattle.execution.specs.Lists.{holds, precedes, distinct}
use Rattle.execution.proofs.Tests.{left, right, either, yes_no}
use Rattle.execution.proofs.Lists.{precedes_second}

pub index_of : (xs : List ℕ) (a : ℕ) → T (holds xs a) → (j : ℕ) × (j < length xs) × (get_or xs j 0 ≡ a)
index_of [] a h = elim h [ ]
index_of (x ∷ xs) a h = elim (either (eqb x a) (holds xs a) h) [
  | inl e ↦ (0, omega arith, eqb→eq x a e)
  | inr k ↦ let r = index_of xs a k in (suc r.0, omega (arith, r.1), r.2)
]

-- what stands before another has a lower index
pub index_before : (xs : List ℕ) (a i : ℕ) → T (distinct xs) → i < length xs → T (precedes xs a (get_or xs i 0)) → (j : ℕ) × (j < i) × (get_or xs j 0 ≡ a)
index_before [] a i d l h = elim h [ ]
index_before (x ∷ xs) a zero d l h = absurd (yes_no (holds xs x) (left (not (holds xs x)) _ d) (elim (either (eqb x a && holds xs x) (precedes xs a x) h) [
  | inl k ↦ right (eqb x a) _ k
  | inr k ↦ precedes_second xs a x k
]))
index_before (x ∷ xs) a (suc i) d l h = elim (either (eqb x a && holds xs (get_or xs i 0)) (precedes xs a (get_or xs i 0)) h) [
  | inl k ↦ (0, omega arith, eqb→eq x a (left (eqb x a) _ k))
  | inr k ↦ let r = index_before xs a i (right (not (holds xs x)) _ d) (omega arith) k in (suc r.0, omega (arith, r.1), r.2)
]
