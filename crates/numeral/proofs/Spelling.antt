-- How long a numeral is, and the spaces in front of it.
use Rattle.std.proofs.Common.{◌≡◌, ℕ, suc, ◌+◌, ◌-◌, ◌*◌, ◌/◌, ◌%◌, ◌^◌, ◌<◌, ◌≤◌, ◌++◌, length, replicate, decimal, sym, refl, ap, ◌∙◌, ⊎_elim, arith}
use Rattle.numeral.specs.Numerals.{justified}
use Rattle.numeral.proofs.Figures.{own}
use Rattle.std.proofs.lemmas.Bool.{cases_lt}
use Rattle.std.proofs.lemmas.Fmt.{decimal_digit, decimal_step, length-decimal-le, digits_decimal, digits_value-decimal}
use Rattle.std.proofs.lemmas.Str.Parse.{digits_value_short}
use Rattle.std.proofs.lemmas.List.{length_push}

pub length_decimal_step : (n : ℕ) → 10 ≤ n → n < 2 ^ 64 → length (decimal n) ≡ length (decimal (n / 10)) + 1
length_decimal_step n large wide = ap length (decimal_step n large wide) ∙ length_push (decimal (n / 10)) (48 + n % 10)

pub length_decimal_digit : (n : ℕ) → n < 10 → length (decimal n) ≡ 1
length_decimal_digit n small = ap length (decimal_digit n small)

-- one digit more than the logarithm, and 0 has one digit as 1 has
pub length_decimal_log : (k n m : ℕ) → (0 < n → m ≡ n) → (n ≡ 0 → m ≡ 1) → 10 ^ k ≤ m → m < 10 * 10 ^ k → n < 2 ^ 32 → length (decimal n) ≡ k + 1
length_decimal_log k n m some none low high small = shorter ∙ between
  where
    wide : m < 2 ^ 64
    wide = ⊎_elim (λ (l : 0 < n). omega (arith, some l)) (λ (z : n ≤ 0). omega (arith, none (omega arith))) (cases_lt 0 n)

    shorter : length (decimal n) ≡ length (decimal m)
    shorter = ⊎_elim (λ (l : 0 < n). ap (λ x. length (decimal x)) (sym (some l))) (λ (z : n ≤ 0). let one = none (omega arith) in omega (arith, length_decimal_digit n (omega arith), length_decimal_digit m (omega arith))) (cases_lt 0 n)

    upper : length (decimal m) ≤ suc k
    upper = length-decimal-le (suc k) m (omega arith) (omega arith) wide

    between : length (decimal m) ≡ k + 1
    between = ⊎_elim
        (λ (l : k < length (decimal m)). omega (arith, upper))
        (λ (s : length (decimal m) ≤ k). absurd (omega (arith, digits_value_short own (decimal m) k (digits_decimal own m wide) s, digits_value-decimal own m wide)))
        (cases_lt k (length (decimal m)))

-- the spaces, and the numeral behind them
pub padded : (w start n : ℕ) → w - length (decimal n) ≡ start → replicate start 32 ++ decimal n ≡ justified w n
unfolding justified
padded w start n e = rw e refl
