-- The laws of `justified` and `numeral`, for callers: neither definition need be opened.
use Rattle.std.proofs.Common.{◌≡◌, ℕ, zero, suc, ◌-◌, ◌^◌, ◌<◌, ◌≤◌, ◌⊎◌, List, ◌++◌, length, get_or, replicate, Some, None, decimal, Option, refl, ap, ◌∙◌, inl, inr, arith}
use Rattle.numeral.proofs.Figures.{decimal_from_figure, figure_decimal, own}
use Rattle.numeral.proofs.Spaces.{padding, unpadded_digits, unpadded_spaces}
use Rattle.numeral.specs.Numerals.{Holds, justified, numeral, unpadded}
use Rattle.std.proofs.lemmas.Fmt.{decimal_is_IsNumeral, digits_decimal, digits_value-decimal}
use Rattle.std.proofs.lemmas.List.{length-append, length-replicate}
use Rattle.std.proofs.lemmas.Str.Parse.{digit_at, digits_value_short}
use Rattle.std.specs.Str.Parse.{AllDigits}
use Rattle.std.specs.Int.{IsInRange}

-- a field is as wide as it is told to be
pub length_justified : (w n : ℕ) → length (decimal n) ≤ w → length (justified w n) ≡ w
unfolding justified
length_justified w n fits = simp (length-append, length-replicate) (omega arith)

-- and never narrower than the numeral
pub length_decimal_le_justified : (w n : ℕ) → length (decimal n) ≤ length (justified w n)
unfolding justified
length_decimal_le_justified w n = simp length-append (omega arith)

-- however many spaces stand before a numeral, the field is justified
pub justified_from_parts : (field : List ℕ) (k n : ℕ) → field ≡ replicate k 32 ++ decimal n → field ≡ justified (length field) n
unfolding justified
justified_from_parts field k n e =
    let spaces : length field - length (decimal n) ≡ k = omega (arith, simp (length-append, length-replicate) at (ap length e)) in
    rw spaces e

-- what `justified` makes of a number is read as that number
pub numeral_justified : (w n : ℕ) → n < 2 ^ 32 → numeral (justified w n) ≡ Some n
unfolding justified numeral
numeral_justified w n small =
    let digits = digits_decimal own n (omega arith) in
    rw (unpadded_spaces, unpadded_digits (decimal n) digits, figure_decimal n small) refl

-- a field reads as n just where it is n justified
pub holds_from_numeral : (field : List ℕ) (n : ℕ) → numeral field ≡ Some n → Holds field n
unfolding numeral
holds_from_numeral field n e =
    let written = decimal_from_figure (unpadded field) n e in
    let padded = padding field in
    let spaces = padded.0 in
    (written.0, justified_from_parts field spaces n (padded.1 ∙ ap (λ ds. replicate spaces 32 ++ ds) written.1))

pub numeral_from_holds : (field : List ℕ) (n : ℕ) → Holds field n → numeral field ≡ Some n
numeral_from_holds field n h = ap numeral h.1 ∙ numeral_justified (length field) n h.0

-- and it reads as no number just where it is none
pub none_from_numeral : (field : List ℕ) → numeral field ≡ None → (n : ℕ) → Holds field n → ⊥
none_from_numeral field e n h =
    let some = numeral_from_holds field n h in
    let z : ◌≡◌ {A = ℕ} 0 1 = cc in omega arith

none_left : (o : Option ℕ) → ((n : ℕ) → o ≡ Some n → ⊥) → o ≡ None
none_left None never = refl
none_left (Some n) never = absurd (never n refl)

pub numeral_from_none : (field : List ℕ) → ((n : ℕ) → Holds field n → ⊥) → numeral field ≡ None
numeral_from_none field none = none_left (numeral field) (λ n e. none n (holds_from_numeral field n e))

-- two numbers that look the same are the same
pub same_from_justified : (w m n : ℕ) → m < 2 ^ 32 → n < 2 ^ 32 → justified w m ≡ justified w n → m ≡ n
same_from_justified w m n small-m small_n e =
    let first = numeral_justified w m small-m in
    let second = numeral_justified w n small_n in
    let same = ap numeral e in
    cc

-- a field of k bytes holds a number below ten to the k
pub numeral_short : (field : List ℕ) (n k : ℕ) → numeral field ≡ Some n → length field ≤ k → n < 10 ^ k
numeral_short field n k e short =
    let holds = holds_from_numeral field n e in
    let wide : n < 2 ^ 64 = omega arith in
    let fits : length (decimal n) ≤ k = omega (arith, ap length holds.1, length_decimal_le_justified (length field) n) in
    let small = digits_value_short own (decimal n) k (digits_decimal own n wide) fits in
    omega (arith, digits_value-decimal own n wide)

bytes_behind : (k i : ℕ) (ds : List ℕ) → AllDigits 10 ds → i < length (replicate k 32 ++ ds) →
    (get_or (replicate k 32 ++ ds) i 0 ≡ 32) ⊎ IsInRange 48 57 (get_or (replicate k 32 ++ ds) i 0)
bytes_behind zero i ds digits within = inr (digit_at ds i digits within)
bytes_behind (suc k) zero ds digits within = inl refl
bytes_behind (suc k) (suc i) ds digits within = bytes_behind k i ds digits (omega arith)

-- each byte of a justified number is a space or a digit
pub bytes_justified : (w n i : ℕ) → n < 2 ^ 32 → i < length (justified w n) →
    (get_or (justified w n) i 0 ≡ 32) ⊎ IsInRange 48 57 (get_or (justified w n) i 0)
unfolding justified
bytes_justified w n i small within =
    bytes_behind (w - length (decimal n)) i (decimal n) (decimal_is_IsNumeral n (omega arith)).0.1 within
