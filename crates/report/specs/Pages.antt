-- A line of the report, and when a line of numbers is denied.
use Rattle.std.specs.Prelude.{ℕ, List, [], ◌∷◌, ◌++◌, None, Option, nat_le}
use Rattle.numeral.specs.Numerals.{justified}
use Rattle.event.specs.declared.denial.Denial.{Denial}
use Rattle.event.specs.declared.denial.Denial.TheVariants.{Range, Page}
use Rattle.event.specs.Denials.{unless}

-- a letter, three numbers of four columns each, and a newline
abbrev pub report_line : ℕ → ℕ → ℕ → ℕ → List ℕ
report_line letter a b c = letter ∷ (justified 4 a ++ (justified 4 b ++ (justified 4 c ++ (10 ∷ []))))

-- why a line of numbers is not written: the first of more than four columns, or a page too short
abbrev pub line_denial : ℕ → ℕ → ℕ → ℕ → Option Denial
line_denial number line place page =
    unless (nat_le number 9999) (Range 1) (
    unless (nat_le line 9999) (Range 2) (
    unless (nat_le place 9999) (Range 3) (
    unless (nat_le 17934 page) Page
    None)))
