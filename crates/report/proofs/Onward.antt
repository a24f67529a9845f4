-- Texts written one after the other: what is left to write leads to what is to stand.
use Rattle.std.proofs.Common.{◌≡◌, ℕ, suc, ◌+◌, ◌<◌, ◌≤◌, cond, ltb, List, [], ◌++◌, length, get_or, take, drop, sym, refl, ap, ◌∙◌, ap₂, zero-add, add-one, arith}
use borrow.Rule.Slice.PartMut.{put_mid}
use Rattle.std.proofs.lemmas.List.{length-append, drop-drop, at_drop_more, at_drop_all}
use Rattle.verdict.specs.Answers.{laid}
use Rattle.report.specs.Pages.{report_line}
use Rattle.report.specs.Texts.{put, Written}
use Rattle.report.specs.Reports.{lines_from, lists_from}
use Rattle.report.specs.Flat.{cut, orders_from}
use Rattle.report.proofs.Puts.{put_none, put_put, put_start}

-- writing the rest at a place of the page as it is now makes of it what writing the whole was to make
pub record Left (from : ℕ) (whole start : List ℕ) (at : ℕ) (rest now : List ℕ) : Type 0 where
  pub ends : at + length rest ≡ from + length whole
  pub page : put at rest now ≡ put from whole start

module _ (from : ℕ) (whole start : List ℕ) where
  pub left_all : Left from whole start from whole start
  left_all = record { ends = refl; page = refl }

  pub left_on : (at : ℕ) (text rest both now : List ℕ) (next : ℕ) (after : List ℕ) → both ≡ text ++ rest → Left from whole start at both now → Written at text now next after
      → at + length text ≤ length now → Left from whole start next rest after
  left_on at text rest both now next after is l w fits = record {
    ends = omega (arith, w.ends, l.ends, ap length is, length-append text rest);
    page = ap₂ (λ (n : ℕ) (p : List ℕ). put n rest p) w.ends w.page ∙ put_put at text rest now fits ∙ ap (λ (xs : List ℕ). put at xs now) (sym is) ∙ l.page;
  }

  pub left_none : (at : ℕ) (rest now : List ℕ) → rest ≡ [] → Left from whole start at rest now → Written from whole start at now
  left_none at rest now is l = record {
    ends = omega (arith, l.ends, ap length is);
    page = sym (put_none at now) ∙ ap (λ (xs : List ℕ). put at xs now) (sym is) ∙ l.page;
  }

-- one text and then another
pub written_on : (at : ℕ) (text more before : List ℕ) (next : ℕ) (between : List ℕ) (end : ℕ) (after : List ℕ)
    → Written at text before next between → Written next more between end after → at + length text ≤ length before → Written at (text ++ more) before end after
written_on at text more before next between end after one two fits = record {
  ends = omega (arith, one.ends, two.ends, length-append text more);
  page = two.page ∙ ap₂ (λ (n : ℕ) (p : List ℕ). put n more p) one.ends one.page ∙ put_put at text more before fits;
}

-- at the start of a page
pub written_start : (text before : List ℕ) (end : ℕ) (after : List ℕ) → Written 0 text before end after → (end ≡ length text) × (after ≡ laid text before)
written_start text before end after w = (w.ends ∙ zero-add (length text), w.page ∙ put_start text before)

-- a part of a page, overwritten
pub put_over : (at k : ℕ) (page part text : List ℕ) → part ≡ text → at + k ≡ at + length text → put_mid at k page part ≡ put at text page
unfolding put
put_over at k page part text is long = ap₂ (λ (xs ys : List ℕ). take at page ++ (xs ++ ys)) is (drop-drop k at page ∙ ap (λ (n : ℕ). drop n page) long)

-- the first line of what is left
pub lines_next : (letter k i : ℕ) (xs : List ℕ) → i < length xs
    → lines_from letter k i (drop i xs) ≡ report_line letter k i (get_or xs i 0) ++ lines_from letter k (i + 1) (drop (i + 1) xs)
unfolding lines_from
lines_next letter k i xs l =
    at_drop_more (lines_from letter k i) xs i 0 l
    ∙ ap (λ (n : ℕ). report_line letter k i (get_or xs i 0) ++ lines_from letter k n (drop (i + 1) xs)) (sym (add-one i))

pub lines_done : (letter k i : ℕ) (xs : List ℕ) → length xs ≤ i → lines_from letter k i (drop i xs) ≡ []
unfolding lines_from
lines_done letter k i xs l = at_drop_all (lines_from letter k i) xs i l

pub orders_next : (n l i j : ℕ) (xs : List ℕ) → j < length xs
    → orders_from n l i (drop j xs) ≡ report_line 77 (cond (ltb (get_or xs j 0) n) (get_or xs j 0) l) (cond (ltb (get_or xs j 0) n) 0 i) (get_or xs j 0)
    ++ orders_from n (cond (ltb (get_or xs j 0) n) (get_or xs j 0) l) (cond (ltb (get_or xs j 0) n) 0 i + 1) (drop (j + 1) xs)
unfolding orders_from
orders_next n l i j xs b =
    at_drop_more (orders_from n l i) xs j 0 b
    ∙ ap (λ (k : ℕ). report_line 77 (cond (ltb (get_or xs j 0) n) (get_or xs j 0) l) (cond (ltb (get_or xs j 0) n) 0 i) (get_or xs j 0)
    ++ orders_from n (cond (ltb (get_or xs j 0) n) (get_or xs j 0) l) k (drop (j + 1) xs)) (sym (add-one (cond (ltb (get_or xs j 0) n) 0 i)))

pub orders_done : (n l i j : ℕ) (xs : List ℕ) → length xs ≤ j → orders_from n l i (drop j xs) ≡ []
unfolding orders_from
orders_done n l i j xs b = at_drop_all (orders_from n l i) xs j b

-- the first list of what is left
pub lists_next : (letter i k r n : ℕ) (xs : List ℕ) → k ≡ suc r
    → lists_from letter i (cut k n xs) ≡ lines_from letter i 0 (take n xs) ++ lists_from letter (i + 1) (cut r n (drop n xs))
unfolding lists_from cut
lists_next letter i k r n xs e =
    ap (λ (j : ℕ). lists_from letter i (cut j n xs)) e
    ∙ ap (λ (j : ℕ). lines_from letter i 0 (take n xs) ++ lists_from letter j (cut r n (drop n xs))) (sym (add-one i))

pub lists_done : (letter i k n : ℕ) (xs : List ℕ) → k ≡ 0 → lists_from letter i (cut k n xs) ≡ []
unfolding lists_from cut
lists_done letter i k n xs e = ap (λ (j : ℕ). lists_from letter i (cut j n xs)) e
