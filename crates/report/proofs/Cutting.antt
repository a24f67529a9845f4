-- Lists in a row, cut apart again.
use Rattle.std.proofs.Common.{◌≡◌, ℕ, ◌*◌, List, [], ◌∷◌, ◌++◌, length, take, drop, refl, ap, ◌∙◌, ap₂, suc-mul, zero-mul, arith}
use Rattle.std.specs.List.{AllByRecursion}
use Rattle.std.proofs.lemmas.List.{length-append, take_at, drop_at}
use Rattle.verdict.specs.declared.verdict.Verdict.TheVariants.{Allowed as is_allowed}
use Rattle.verdict.specs.Answers.{joined}
use Rattle.execution.specs.Content.{Content}
use Rattle.report.specs.Pages.{report_line}
use Rattle.report.specs.Reports.{lists_from, writes}
use Rattle.report.specs.Flat.{cut, orders_from, from_sheet}

pub cut_joined : (n : ℕ) (xss : List (List ℕ)) → AllByRecursion (λ (xs : List ℕ). length xs ≡ n) xss → cut (length xss) n (joined xss) ≡ xss
unfolding cut
cut_joined n [] long = refl
cut_joined n (xs ∷ xss) long =
    ap₂ (λ (ys : List ℕ) (yss : List (List ℕ)). ys ∷ yss) (take_at xs (joined xss) n long.0)
    (ap (cut (length xss) n) (drop_at xs (joined xss) n long.0) ∙ cut_joined n xss long.1)

pub joined_length : (n : ℕ) (xss : List (List ℕ)) → AllByRecursion (λ (xs : List ℕ). length xs ≡ n) xss → length (joined xss) ≡ length xss * n
joined_length n [] long = omega (arith, zero-mul n)
joined_length n (xs ∷ xss) long =
    omega (arith, joined_length n xss long.1, long.0, length-append xs (joined xss), suc-mul (length xss) n)

-- the parts of a sheet's report
pub sheet_parts : (g : Content) (k n w l : ℕ) (sheet front row : List ℕ) → n ≡ length g.events → w ≡ writes g → l ≡ g.locations → front ≡ take (k * n) sheet → row ≡ take w (drop (k * n) sheet)
    → report_line 65 k n w ++ (lists_from 79 0 (cut k n front) ++ orders_from l 0 0 row) ≡ from_sheet g is_allowed k sheet
unfolding from_sheet
sheet_parts g k n w l sheet front row en ew el ef er = cc
