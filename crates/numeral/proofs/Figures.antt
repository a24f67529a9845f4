-- Bare numerals: what their digits write, and which of them std's `decimal` writes.
use Rattle.std.proofs.Common.{◌≡◌, ℕ, ◌+◌, ◌-◌, ◌*◌, ◌^◌, ◌<◌, ◌≤◌, Bool, true, false, ◌&&◌, ◌||◌, eqb, ltb, List, [], ◌∷◌, length, get_or, drop, Some, None, decimal, sym, refl, ap, ◌∙◌, ⊎_elim, arith, rules}
use Rattle.numeral.specs.Numerals.{figure, plain, value_after}
use Rattle.std.proofs.lemmas.Fmt.{decimal_digit, decimal_nonempty, decimal-digits_value, digits_decimal, first_decimal, digits_value-decimal}
use Rattle.std.proofs.lemmas.List.{at_drop_more}
use Rattle.std.proofs.lemmas.Str.Parse.{IsNumeralModel, numerals_by_fold}
use Rattle.std.proofs.lemmas.Bool.{and_from, and_left, and_parts, and_right, cases_Bool, cases_eq, cases_lt, eq-eqb, eqb-true, le-ltb, lt-ltb, ltb-true, or_cases, or_left, or_right}
use Rattle.std.proofs.lemmas.Bool.Decides.{nat_tests}
use Rattle.std.specs.Char.{is_ascii_digit}
use Rattle.std.specs.Str.{all_ascii_digits}

pub own : IsNumeralModel (λ ds. all_ascii_digits ds ≡ true) (value_after 0)
unfolding value_after
own = numerals_by_fold _ (search rules) value_after (search rules)

-- digits behind a number never make it smaller
pub value_after_grows : (n : ℕ) (ds : List ℕ) → n ≤ value_after n ds
unfolding value_after
value_after_grows n [] = omega arith
value_after_grows n (d ∷ ds) = omega (arith, value_after_grows (n * 10 + (d - 48)) ds)

digit_above : (d : ℕ) → (d ≡ 48 → ⊥) → is_ascii_digit d ≡ true → 48 < d
digit_above d other is = grind (arith, nat_tests)

-- a zero stands in front only where it stands alone
abbrev pub Unled : List ℕ → Type 0
Unled ds = get_or ds 0 0 ≡ 48 → length ds ≡ 1

pub plain_parts : (ds : List ℕ) → plain ds ≡ true → (all_ascii_digits ds ≡ true) × (0 < length ds) × Unled ds
unfolding plain
plain_parts [] e = absurd (let z : ◌≡◌ {A = ℕ} 0 1 = cc in omega arith)
plain_parts (d ∷ ds) e =
    let both = and_parts (all_ascii_digits (d ∷ ds)) (ltb 48 d || eqb (length ds) 0) e in (
      both.0,
      omega arith,
      λ led. ⊎_elim
          (λ (above : ltb 48 d ≡ true). absurd (omega (arith, ltb-true 48 d above)))
          (λ (alone : eqb (length ds) 0 ≡ true). omega (arith, eqb-true (length ds) 0 alone))
          (or_cases (ltb 48 d) (eqb (length ds) 0) both.1),
    )

pub plain_from : (ds : List ℕ) → all_ascii_digits ds ≡ true → 0 < length ds → Unled ds → plain ds ≡ true
unfolding plain
plain_from [] all some unled = absurd (omega arith)
plain_from (d ∷ ds) all some unled =
    and_from (all_ascii_digits (d ∷ ds)) (ltb 48 d || eqb (length ds) 0) all (⊎_elim
    (λ (led : d ≡ 48). or_right (ltb 48 d) (eqb (length ds) 0) (eq-eqb (length ds) 0 (omega (arith, unled led))))
    (λ (other : d ≡ 48 → ⊥). or_left (ltb 48 d) (eqb (length ds) 0) (lt-ltb 48 d (digit_above d other (and_parts (is_ascii_digit d) (all_ascii_digits ds) all).0)))
    (cases_eq d 48))

not_plain : (ds : List ℕ) → all_ascii_digits ds ≡ false → plain ds ≡ false
unfolding plain
not_plain [] other = refl
not_plain (d ∷ ds) other = and_left (all_ascii_digits (d ∷ ds)) _ other

false_from : (t : Bool) → (t ≡ true → ⊥) → t ≡ false
false_from true never = absurd (never refl)
false_from false never = refl

pub figure_is : (ds : List ℕ) → plain ds ≡ true → value_after 0 ds < 2 ^ 32 → figure ds ≡ Some (value_after 0 ds)
unfolding figure
figure_is ds p small = rw (p, lt-ltb (value_after 0 ds) (2 ^ 32) small) refl

pub figure_not_plain : (ds : List ℕ) → plain ds ≡ false → figure ds ≡ None
unfolding figure
figure_not_plain ds p = rw p refl

pub figure_not_digits : (ds : List ℕ) → all_ascii_digits ds ≡ false → figure ds ≡ None
figure_not_digits ds other = figure_not_plain ds (not_plain ds other)

pub figure_too_large : (ds : List ℕ) → 2 ^ 32 ≤ value_after 0 ds → figure ds ≡ None
unfolding figure
figure_too_large ds large = rw (and_right (plain ds) _ (le-ltb (value_after 0 ds) (2 ^ 32) large)) refl

pub figure_empty : (ds : List ℕ) → length ds < 1 → figure ds ≡ None
figure_empty ds empty = figure_not_plain ds (false_from (plain ds) (λ p. omega (arith, (plain_parts ds p).1)))

pub figure_led : (ds : List ℕ) → 1 < length ds → get_or ds 0 0 ≡ 48 → figure ds ≡ None
figure_led ds long led = figure_not_plain ds (false_from (plain ds) (λ p. omega (arith, (plain_parts ds p).2 led)))

-- the digits from i on, one step further
pub value_more : (ds : List ℕ) (i n : ℕ) → i < length ds →
    value_after n (drop i ds) ≡ value_after (n * 10 + (get_or ds i 0 - 48)) (drop (i + 1) ds)
unfolding value_after
value_more ds i n within = at_drop_more (value_after n) ds i 0 within

pub digits_more : (ds : List ℕ) (i : ℕ) → i < length ds →
    all_ascii_digits (drop i ds) ≡ (is_ascii_digit (get_or ds i 0) && all_ascii_digits (drop (i + 1) ds))
digits_more ds i within = at_drop_more all_ascii_digits ds i 0 within

-- too large at the digit i, and so at the end
pub figure_overflow : (ds : List ℕ) (i n : ℕ) → i < length ds → value_after n (drop i ds) ≡ value_after 0 ds →
    2 ^ 32 ≤ n * 10 + (get_or ds i 0 - 48) → figure ds ≡ None
figure_overflow ds i n within e large =
    figure_too_large ds (omega (arith, value_more ds i n within, value_after_grows (n * 10 + (get_or ds i 0 - 48)) (drop (i + 1) ds)))

-- a bare numeral is what is written of its number
pub decimal_from_figure : (ds : List ℕ) (n : ℕ) → figure ds ≡ Some n → (n < 2 ^ 32) × (ds ≡ decimal n)
decimal_from_figure ds n e = ⊎_elim
    (λ (p : plain ds ≡ true). ⊎_elim
    (λ (small : value_after 0 ds < 2 ^ 32).
    let is = figure_is ds p small in
    let same : n ≡ value_after 0 ds = cc in
    let parts = plain_parts ds p in
    let written = decimal-digits_value own ds parts.0 parts.1 parts.2 (omega arith) in
    (omega arith, sym written ∙ ap decimal (sym same)))
    (λ (large : 2 ^ 32 ≤ value_after 0 ds).
    let none = figure_too_large ds large in
    absurd (let z : ◌≡◌ {A = ℕ} 0 1 = cc in omega arith))
    (cases_lt (value_after 0 ds) (2 ^ 32)))
    (λ (p : plain ds ≡ false).
    let none = figure_not_plain ds p in
    absurd (let z : ◌≡◌ {A = ℕ} 0 1 = cc in omega arith))
    (cases_Bool (plain ds))

unled_decimal : (n : ℕ) → n < 2 ^ 64 → Unled (decimal n)
unled_decimal n small led = ⊎_elim
    (λ (positive : 0 < n). absurd (omega (arith, first_decimal n positive small)))
    (λ (zero : n ≤ 0). ap length (decimal_digit n (omega arith)))
    (cases_lt 0 n)

-- and what is written of a number is a bare numeral
pub figure_decimal : (n : ℕ) → n < 2 ^ 32 → figure (decimal n) ≡ Some n
figure_decimal n small =
    let wide : n < 2 ^ 64 = omega arith in
    let value = digits_value-decimal own n wide in
    figure_is (decimal n)
    (plain_from (decimal n) (digits_decimal own n wide) (decimal_nonempty n wide) (unled_decimal n wide))
    (omega arith)
    ∙ ap Some value
