-- A line of the report, byte by byte.
use Rattle.std.proofs.Common.{◌≡◌, ℕ, ◌≤◌, List, [], ◌∷◌, ◌++◌, length, get_or, decimal, sym, refl, subst, arith}
use Rattle.std.proofs.lemmas.List.{length-append}
use Rattle.std.proofs.lemmas.Fmt.{length-decimal-le}
use Rattle.numeral.specs.Numerals.{justified}
use Rattle.numeral.proofs.Laws.{length_justified}
use Rattle.report.specs.Pages.{report_line}
use Rattle.report.specs.declared.column.Column.{Column}

pub four_digits : (n : ℕ) → n ≤ 9999 → length (decimal n) ≤ 4
four_digits n l = length-decimal-le 4 n (omega arith) (omega arith) (omega arith)

-- the four bytes of a number, and then the rest
spelled : (n : ℕ) (xs rest : List ℕ) → n ≤ 9999 → xs ≡ justified 4 n → get_or xs 0 0 ∷ (get_or xs 1 0 ∷ (get_or xs 2 0 ∷ (get_or xs 3 0 ∷ rest))) ≡ justified 4 n ++ rest
spelled n xs rest l e = subst (λ (ys : List ℕ). get_or xs 0 0 ∷ (get_or xs 1 0 ∷ (get_or xs 2 0 ∷ (get_or xs 3 0 ∷ rest))) ≡ ys ++ rest) e (by xs (subst (λ (ys : List ℕ). length ys ≡ 4) (sym e) (length_justified 4 n (four_digits n l))))
  where
    by : (ys : List ℕ) → length ys ≡ 4 → get_or ys 0 0 ∷ (get_or ys 1 0 ∷ (get_or ys 2 0 ∷ (get_or ys 3 0 ∷ rest))) ≡ ys ++ rest
    by [] h = absurd (omega arith)
    by (a ∷ []) h = absurd (omega arith)
    by (a ∷ (b ∷ [])) h = absurd (omega arith)
    by (a ∷ (b ∷ (c ∷ []))) h = absurd (omega arith)
    by (a ∷ (b ∷ (c ∷ (d ∷ [])))) h = refl
    by (a ∷ (b ∷ (c ∷ (d ∷ (e ∷ ys))))) h = absurd (omega arith)

pub line_spelled : (letter a b c : ℕ) (xs ys zs : List ℕ) → a ≤ 9999 → b ≤ 9999 → c ≤ 9999 → xs ≡ justified 4 a → ys ≡ justified 4 b → zs ≡ justified 4 c
    → letter ∷ (get_or xs 0 0 ∷ (get_or xs 1 0 ∷ (get_or xs 2 0 ∷ (get_or xs 3 0 ∷ (get_or ys 0 0 ∷ (get_or ys 1 0 ∷ (get_or ys 2 0 ∷ (get_or ys 3 0 ∷ (get_or zs 0 0 ∷ (get_or zs 1 0 ∷ (get_or zs 2 0 ∷ (get_or zs 3 0 ∷ (10 ∷ []))))))))))))) ≡ report_line letter a b c
line_spelled letter a b c xs ys zs la lb lc ea eb ec =
    let third = spelled c zs (10 ∷ []) lc ec in
    let second = spelled b ys (justified 4 c ++ (10 ∷ [])) lb eb in
    let first = spelled a xs (justified 4 b ++ (justified 4 c ++ (10 ∷ []))) la ea in
    cc

pub line_length : (letter a b c : ℕ) → a ≤ 9999 → b ≤ 9999 → c ≤ 9999 → length (report_line letter a b c) ≡ 14
line_length letter a b c la lb lc =
    let first = length_justified 4 a (four_digits a la) in
    let second = length_justified 4 b (four_digits b lb) in
    let third = length_justified 4 c (four_digits c lc) in
    omega (
      arith,
      length-append (justified 4 a) (justified 4 b ++ (justified 4 c ++ (10 ∷ []))),
      length-append (justified 4 b) (justified 4 c ++ (10 ∷ [])),
      length-append (justified 4 c) (10 ∷ []),
    )

pub columns_length : (letter : ℕ) (a b c : Column) → length (report_line letter a.number b.number c.number) ≡ 14
columns_length letter a b c = line_length letter a.number b.number c.number a.fits b.fits c.fits
