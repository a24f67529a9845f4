-- Each line has 14 bytes.
use Rattle.std.proofs.Common.{◌≡◌, ℕ, zero, suc, ◌+◌, ◌*◌, ◌≤◌, Bool, true, false, cond, ltb, List, [], ◌∷◌, length, take, drop, refl, ap, mul-le-mul_left, arith}
use Rattle.std.specs.List.{AllByRecursion}
use Rattle.std.proofs.lemmas.List.{length-append, take-append-drop}
use Rattle.std.proofs.ByRecursion.{All-take, All-drop, All-from_get_or}
use Rattle.verdict.specs.Answers.{joined}
use Rattle.report.specs.Pages.{report_line}
use Rattle.report.specs.declared.row.Row.{Row}
use Rattle.report.proofs.Columns.{Fits, Listable}
use Rattle.report.specs.Reports.{lines_from, lists_from}
use Rattle.report.specs.Flat.{cut, orders_from}
use Rattle.report.proofs.Spelled.{line_length}

pub cond_fits : (b : Bool) (x y : ℕ) → Fits x → Fits y → Fits (cond b x y)
cond_fits true x y p q = p
cond_fits false x y p q = q

pub cond_low : (b : Bool) (i : ℕ) → cond b 0 i ≤ i
cond_low true i = omega arith
cond_low false i = omega arith

pub lines_length : (letter k i : ℕ) (xs : List ℕ) → Fits k → i + length xs ≤ 10000 → AllByRecursion Fits xs → length (lines_from letter k i xs) ≡ 14 * length xs
unfolding lines_from
lines_length letter k i [] fk few each = refl
lines_length letter k i (x ∷ xs) fk few each =
    let ih = lines_length letter k (suc i) xs fk (omega arith) each.1 in
    let here = line_length letter k i x fk (omega arith) each.0 in
    omega (arith, length-append (report_line letter k i x) (lines_from letter k (suc i) xs))

pub lists_length : (letter k : ℕ) (xss : List (List ℕ)) → k + length xss ≤ 10000 → AllByRecursion Listable xss → length (lists_from letter k xss) ≡ 14 * length (joined xss)
unfolding lists_from
lists_length letter k [] few each = refl
lists_length letter k (xs ∷ xss) few each =
    let ih = lists_length letter (suc k) xss (omega arith) each.1 in
    let here = lines_length letter k 0 xs (omega arith) (omega (arith, each.0.few)) each.0.each in
    omega (arith, length-append (lines_from letter k 0 xs) (lists_from letter (suc k) xss), length-append xs (joined xss))

pub orders_length : (n l i : ℕ) (xs : List ℕ) → Fits l → i + length xs ≤ 10000 → AllByRecursion Fits xs → length (orders_from n l i xs) ≡ 14 * length xs
unfolding orders_from
orders_length n l i [] fl few each = refl
orders_length n l i (x ∷ xs) fl few each =
    let b = ltb x n in
    let fits = cond_fits b x l each.0 fl in
    let low = cond_low b i in
    let ih = orders_length n (cond b x l) (suc (cond b 0 i)) xs fits (omega arith) each.1 in
    let here = line_length 77 (cond b x l) (cond b 0 i) x fits (omega arith) each.0 in
    omega (arith, length-append (report_line 77 (cond b x l) (cond b 0 i) x) (orders_from n (cond b x l) (suc (cond b 0 i)) xs))

pub row_listable : (r : Row) → Listable r.numbers.now
row_listable r = record { few = r.few; each = All-from_get_or Fits r.numbers.now 0 r.fits }

-- parts of a list
module _ (n : ℕ) (xs : List ℕ) (l : Listable xs) where
  split : length (take n xs) + length (drop n xs) ≡ length xs
  split = omega (arith, length-append (take n xs) (drop n xs), ap length (take-append-drop n xs))

  pub listable_take : Listable (take n xs)
  listable_take = record { few = omega (arith, split, l.few); each = All-take Fits n xs l.each }

  pub listable_drop : Listable (drop n xs)
  listable_drop = record { few = omega (arith, split, l.few); each = All-drop Fits n xs l.each }

-- at most four lists of 256 events
pub lists_few : (k n : ℕ) → k ≤ 4 → n ≤ 256 → k * n ≤ 1024
lists_few k n few small = omega (arith, mul-le-mul_left k small)

-- as many lists as are cut, of numbers that are few and small as all are
pub cut_length : (k n : ℕ) (xs : List ℕ) → length (cut k n xs) ≡ k
unfolding cut
cut_length zero n xs = refl
cut_length (suc k) n xs = ap suc (cut_length k n (drop n xs))

pub cut_listable : (k n : ℕ) (xs : List ℕ) → Listable xs → AllByRecursion Listable (cut k n xs)
unfolding cut
cut_listable zero n xs l = tt
cut_listable (suc k) n xs l = (listable_take n xs l, cut_listable k n (drop n xs) (listable_drop n xs l))

-- lists that are cut from a row are not longer than it
cut_within : (k n : ℕ) (xs : List ℕ) → length (joined (cut k n xs)) ≤ length xs
unfolding cut
cut_within zero n xs = omega arith
cut_within (suc k) n xs =
    omega (arith, cut_within k n (drop n xs), length-append (take n xs) (joined (cut k n (drop n xs))), length-append (take n xs) (drop n xs), ap length (take-append-drop n xs))

pub cut_lines : (k n : ℕ) (xs : List ℕ) → k ≤ 4 → Listable xs → length (lists_from 79 0 (cut k n xs)) ≤ 14 * length xs
cut_lines k n xs few l = omega (arith, lists_length 79 0 (cut k n xs) (omega (arith, cut_length k n xs)) (cut_listable k n xs l), cut_within k n xs)
