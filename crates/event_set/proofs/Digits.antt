-- The digits of a number: of zero, of 2 ^ j, of an `|` and an `&`; and its lowest set digit.
use Rattle.std.proofs.Common.{◌≡◌, ℕ, zero, suc, min, max, ◌-◌, ◌/◌, ◌%◌, ◌^◌, ◌<◌, true, false, not, ◌&&◌, ◌||◌, eqb, ltb, ◌⊎◌, sym, refl, ap, ◌∙◌, subst, ap₂, inl, inr, pow-suc, div-one, one-add, arith, shr-shr}
use native.Mathlib.Nat.{zero-div}
use Rattle.std.proofs.lemmas.Nat.Bits.{bit_at_or, bit_at_and, bit_at-lt, bit_at-pow_same, bit_at-pow_other, bit_at_ones, bit_at_ones_above}
use Rattle.std.proofs.lemmas.Bool.{cases_eq, cases_lt, eq-eqb, ne_eqb, lt-ltb, le-ltb}
use Rattle.std.proofs.lemmas.Bool.Decides.{nat_tests}
use Rattle.std.specs.Int.{bit_at}
use lib.Dec.{eqb-zero-suc, eqb-suc-zero, eqb-suc-suc}
use lib.Bits.{bit_and, bit_or, and_shr, and_mod, and_self}
use lib.Count.{count_trailing_zeros, under}
use Rattle.event_set.specs.Sets.{bit}

or_digit : (p q : ℕ) → p < 2 → q < 2 → eqb (max p q) 1 ≡ (eqb p 1 || eqb q 1)
or_digit p q h k = grind (arith, nat_tests)

pub bit_zero : (k : ℕ) → bit 0 k ≡ false
unfolding bit
bit_zero k = rw (zero-div (2 ^ k))

pub bit_of_or : (u v k : ℕ) → bit (bit_or u v) k ≡ (bit u k || bit v k)
unfolding bit
bit_of_or u v k = ap (λ n. eqb n 1) (bit_at_or u v k) ∙ or_digit (bit_at u k) (bit_at v k) (bit_at-lt u k) (bit_at-lt v k)

-- the lowest digit, and the others
pub bit_low : (w : ℕ) → bit w 0 ≡ eqb (w % 2) 1
unfolding bit
bit_low w = ap (λ n. eqb (n % 2) 1) (div-one w)

pub bit_suc : (w k : ℕ) → bit w (suc k) ≡ bit (w / 2) k
unfolding bit
bit_suc w k = ap (λ n. eqb (n % 2) 1) (ap (λ n. w / 2 ^ n) (sym (one-add k)) ∙ sym (shr-shr w 1 k))

pub bit_pow : (j k : ℕ) → bit (2 ^ j) k ≡ eqb k j
unfolding bit
bit_pow j k = elim (cases_eq k j) [
  | inl e ↦ ap (λ i. eqb (bit_at (2 ^ j) i) 1) e ∙ ap (λ n. eqb n 1) (bit_at-pow_same j) ∙ sym (eq-eqb k j e)
  | inr n ↦ ap (λ m. eqb m 1) (bit_at-pow_other j k n) ∙ sym (ne_eqb k j n)
]

-- where just the lowest j digits are 1
pub bit_ones : (j k : ℕ) → bit (2 ^ j - 1) k ≡ ltb k j
unfolding bit
bit_ones j k = elim (cases_lt k j) [
  | inl l ↦ ap (λ n. eqb n 1) (bit_at_ones j k l) ∙ sym (lt-ltb k j l)
  | inr h ↦ ap (λ n. eqb n 1) (bit_at_ones_above j k h) ∙ sym (le-ltb k j h)
]

digit_of : (w : ℕ) → (w % 2 ≡ 0) ⊎ (w % 2 ≡ 1)
digit_of w = go (w % 2) (omega arith)
  where
    go : (d : ℕ) → d < 2 → (d ≡ 0) ⊎ (d ≡ 1)
    go zero h = inl refl
    go (suc zero) h = inr refl
    go (suc (suc d)) h = absurd (omega arith)

-- `v` is `w` without the digit at t, the lowest that is set
pub record Taken (w t v : ℕ) : Type 0 where
  pub is_set : bit w t ≡ true
  pub before : (j : ℕ) → j < t → bit w j ≡ false
  pub cleared : (j : ℕ) → bit v j ≡ (not (eqb j t) && bit w j)

and_low : (w v : ℕ) → bit (bit_and w v) 0 ≡ eqb (bit_and (w % 2) (v % 2)) 1
and_low w v = bit_low (bit_and w v) ∙ ap (λ n. eqb n 1) (and_mod w v 1)

and_suc : (w v j : ℕ) → bit (bit_and w v) (suc j) ≡ bit (bit_and (w / 2) (v / 2)) j
and_suc w v j = bit_suc (bit_and w v) j ∙ ap (λ n. bit n j) (and_shr w v 1)

-- an odd number's lowest digit goes, and an even number's is that of its half
taken_odd : (w : ℕ) → w % 2 ≡ 1 → Taken w 0 (bit_and w (w - 1))
taken_odd w e = record { is_set = bit_low w ∙ ap (λ n. eqb n 1) e; before = λ j h. absurd (omega arith); cleared = go (omega arith) (omega arith) }
  where
    go : (w - 1) % 2 ≡ 0 → (w - 1) / 2 ≡ w / 2 → (j : ℕ) → bit (bit_and w (w - 1)) j ≡ (not (eqb j 0) && bit w j)
    go o q zero = and_low w (w - 1) ∙ ap₂ (λ m n. eqb (bit_and m n) 1) e o
    go o q (suc j) =
        and_suc w (w - 1) j ∙ ap (λ n. bit n j) (ap (λ n. bit_and (w / 2) n) q ∙ and_self (w / 2)) ∙ sym (bit_suc w j)
        ∙ ap (λ x. not x && bit w (suc j)) (sym (eqb-suc-zero j))

taken_even : (w t : ℕ) → w % 2 ≡ 0 → 0 < w → Taken (w / 2) t (bit_and (w / 2) (w / 2 - 1)) → Taken w (suc t) (bit_and w (w - 1))
taken_even w t e p r = record { is_set = bit_suc w t ∙ r.is_set; before = none; cleared = go (omega arith) }
  where
    none : (j : ℕ) → j < suc t → bit w j ≡ false
    none zero h = bit_low w ∙ ap (λ n. eqb n 1) e
    none (suc j) h = bit_suc w j ∙ r.before j (omega arith)

    go : (w - 1) / 2 ≡ w / 2 - 1 → (j : ℕ) → bit (bit_and w (w - 1)) j ≡ (not (eqb j (suc t)) && bit w j)
    go q zero =
        and_low w (w - 1) ∙ ap (λ m. eqb (bit_and m ((w - 1) % 2)) 1) e
        ∙ sym (ap₂ (λ x y. not x && y) (eqb-zero-suc t) (bit_low w ∙ ap (λ n. eqb n 1) e))
    go q (suc j) =
        and_suc w (w - 1) j ∙ ap (λ n. bit (bit_and (w / 2) n) j) q ∙ r.cleared j
        ∙ sym (ap₂ (λ x y. not x && y) (eqb-suc-suc j t) (bit_suc w j))

-- The lowest set digit of a w that is not 0 stands at `count_trailing_zeros k w`, and `w & (w - 1)` clears just that one.
pub lowest : (k w : ℕ) → 0 < w → w < 2 ^ k → (count_trailing_zeros k w < k) × Taken w (count_trailing_zeros k w) (bit_and w (w - 1))
unfolding count_trailing_zeros
lowest zero w p h = absurd (omega arith)
lowest (suc k) w p h = go (digit_of w) (λ q. lowest k (w / 2) q (let b = pow-suc 2 k in omega arith))
  where
    V : ℕ → Type 0
    V t = (t < suc k) × Taken w t (bit_and w (w - 1))

    go : (w % 2 ≡ 0) ⊎ (w % 2 ≡ 1) → (0 < w / 2 → (count_trailing_zeros k (w / 2) < k) × Taken (w / 2) (count_trailing_zeros k (w / 2)) (bit_and (w / 2) (w / 2 - 1))) → V (under (w % 2) (count_trailing_zeros k (w / 2)))
    go (inr e) rest = subst (λ d. V (under d (count_trailing_zeros k (w / 2)))) (sym e) (omega arith, taken_odd w e)
    go (inl e) rest =
        let r = rest (omega arith) in
        subst (λ d. V (under d (count_trailing_zeros k (w / 2)))) (sym e) (omega arith, taken_even w (count_trailing_zeros k (w / 2)) e p r.1)

and_digit : (p q : ℕ) → p < 2 → q < 2 → eqb (min p q) 1 ≡ (eqb p 1 && eqb q 1)
and_digit p q h k = grind (arith, nat_tests)

pub bit_of_and : (u v k : ℕ) → bit (bit_and u v) k ≡ (bit u k && bit v k)
unfolding bit
bit_of_and u v k = ap (λ n. eqb n 1) (bit_at_and u v k) ∙ and_digit (bit_at u k) (bit_at v k) (bit_at-lt u k) (bit_at-lt v k)

not_digit : (p : ℕ) → p < 2 → eqb (1 - p) 1 ≡ not (eqb p 1)
not_digit zero h = refl
not_digit (suc zero) h = refl
not_digit (suc (suc p)) h = absurd (omega arith)

-- `!w`, at k digits
pub bit_not : (k w j : ℕ) → w < 2 ^ k → j < k → bit ((2 ^ k - 1) - w) j ≡ not (bit w j)
bit_not zero w j h l = absurd (omega arith)
bit_not (suc k) w zero h l =
    let p = pow-suc 2 k in
    let e : ((2 ^ suc k - 1) - w) % 2 ≡ 1 - w % 2 = omega arith in
    bit_low ((2 ^ suc k - 1) - w) ∙ ap (λ n. eqb n 1) e ∙ not_digit (w % 2) (omega arith) ∙ ap not (sym (bit_low w))
bit_not (suc k) w (suc j) h l =
    let p = pow-suc 2 k in
    let e : ((2 ^ suc k - 1) - w) / 2 ≡ (2 ^ k - 1) - w / 2 = omega arith in
    bit_suc ((2 ^ suc k - 1) - w) j ∙ ap (λ n. bit n j) e ∙ bit_not k (w / 2) j (omega arith) (omega arith) ∙ ap not (sym (bit_suc w j))
