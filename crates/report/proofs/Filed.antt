-- From what a print and the denial line promise to what a file is told as.
use Rattle.std.proofs.Common.{◌≡◌, ℕ, ◌<◌, ◌≤◌, Bool, true, false, cond, not, eqb, leb, List, length, drop, is_some, IfOk, Some, None, Ok, Err, Option, Result, sym, refl, ap, ◌∙◌, subst, inl, inr, arith}
use Rattle.std.proofs.lemmas.List.{length-append}
use Rattle.std.proofs.lemmas.Bool.{cases_lt, le-leb, lt-leb, cond-true, cond-false}
use Rattle.event.specs.declared.denial.Denial.{Denial}
use Rattle.event.specs.declared.denial.Denial.TheVariants.{Range, Wide, Page}
use Rattle.event.specs.Denials.{denial_position, refusal, unless, or_else}
use Rattle.execution.specs.Content.{Content}
use Rattle.execution.specs.Sound.{Sound}
use Rattle.recording.specs.Headings.{Heading}
use Rattle.boards.specs.declared.board.Board.{Board}
use Rattle.boards.specs.Boards.{numbered, meaning_of}
use Rattle.boards.specs.OfBoard.{board_rules}
use Rattle.verdict.specs.Denials.{unread, too_wide}
use Rattle.verdict.specs.Answers.{Answer, allowed, cyclic, no_placement, denied, RightUnless, laid}
use Rattle.report.specs.Pages.{report_line, line_denial}
use Rattle.report.specs.Reports.{report}
use Rattle.piles.specs.OfPile.{piled_rules}
use Rattle.report.specs.Printing.{print_denial, answered, LawfullyPrinted}
use Rattle.report.specs.Files.{denial_text, told_as, pile_of, ToldOf, Stands}
use Rattle.report.proofs.Spelled.{line_length}
use Rattle.report.proofs.Reporting.{same_printed}

-- what the page's length alone decides
abbrev Short : List ℕ → Result ℕ Denial → List ℕ → Type 0
Short before r after = length before < 17934 → (r ≡ Err Page) × (after ≡ before)

abbrev Long : (List ℕ → Type 0) → List ℕ → Result ℕ Denial → List ℕ → Type 0
Long Serves before r after = 17934 ≤ length before → Stands Serves before r after

refused : (r : Result ℕ Denial) (d : Denial) → refusal r ≡ Some d → r ≡ Err d
refused (Ok n) d e = cc
refused (Err c) d e = let same : c ≡ d = cc in ap (λ (x : Denial). Err x) same

answers : (r : Result ℕ Denial) → refusal r ≡ None → IfOk r (λ n. n ≡ 14) → r ≡ Ok 14
answers (Ok n) e k = ap (λ (x : ℕ). Ok x) k
answers (Err c) e k = cc

-- a denial line of numbers that fit is denied by the page alone
module _ (r : Result ℕ Denial) (n line place : ℕ) (before after : List ℕ) (fn : n ≤ 9999) (fl : line ≤ 9999) (fp : place ≤ 9999)
    (tested : refusal r ≡ line_denial n line place (length before)) (stands : after ≡ cond (is_some (refusal r)) before (laid (report_line 68 n line place) before)) (long : IfOk r (λ k. k ≡ 14)) where
  by_page : refusal r ≡ unless (leb 17934 (length before)) Page None
  by_page =
      tested
      ∙ cond-true (leb n 9999) _ (Some (Range 1)) (le-leb n 9999 fn)
      ∙ cond-true (leb line 9999) _ (Some (Range 2)) (le-leb line 9999 fl)
      ∙ cond-true (leb place 9999) _ (Some (Range 3)) (le-leb place 9999 fp)

  pub line_short : Short before r after
  line_short s =
      let denied-it : refusal r ≡ Some Page = by_page ∙ cond-false (leb 17934 (length before)) None (Some Page) (lt-leb 17934 (length before) s) in
      (refused r Page denied-it, stands ∙ ap (λ (o : Option Denial). cond (is_some o) before (laid (report_line 68 n line place) before)) denied-it)

  pub line_long : (Serves : List ℕ → Type 0) → Serves (report_line 68 n line place) → Long Serves before r after
  line_long Serves serves s =
      let passed : refusal r ≡ None = by_page ∙ cond-true (leb 17934 (length before)) None (Some Page) (le-leb 17934 (length before) s) in
      record {
        text = report_line 68 n line place;
        serves = serves;
        returned = answers r passed long ∙ ap (λ (k : ℕ). Ok k) (sym (line_length 68 n line place fn fl fp));
        page = stands ∙ ap (λ (o : Option Denial). cond (is_some o) before (laid (report_line 68 n line place) before)) passed;
      }

-- an answer that is not denied is told as its report
told_report : (g : Content) (a : Answer) (n : ℕ) → Ok n ≡ answered g a → (report g a ≡ told_as g a) × (n ≡ length (report g a))
told_report g (allowed lists orders) n e = (refl, cc)
told_report g (cyclic k xs) n e = (refl, cc)
told_report g no_placement n e = (refl, cc)
told_report g (denied d) n e = (cc, cc)

answered_denied : (g : Content) (a : Answer) (d : Denial) → Err d ≡ answered g a → a ≡ denied d
answered_denied g (allowed lists orders) d e = cc
answered_denied g (cyclic k xs) d e = cc
answered_denied g no_placement d e = cc
answered_denied g (denied c) d e = let same : c ≡ d = cc in ap denied same

-- some denial stands where the page is too short
some_denial : (o : Option Denial) (w : Bool) → (d : Denial) × (or_else o (unless w Wide (unless false Page None)) ≡ Some d)
some_denial (Some d) w = (d, refl)
some_denial None true = (Page, refl)
some_denial None false = (Wide, refl)

module _ (h : Heading) (g : Content) (board : Board) (chosen : numbered h.model ≡ Some board) (before : List ℕ) where
  long_enough : 17934 ≤ length before → print_denial g (length before) ≡ print_denial g 17934
  long_enough l = ap (λ (b : Bool). or_else (unread g) (unless (not (too_wide g)) Wide (unless b Page None))) (le-leb 17934 (length before) l)

  module _ (n : ℕ) (after : List ℕ) (p : LawfullyPrinted (pile_of h board) g before (Ok n) after) where
    pub printed_long : Long (ToldOf h g) before (Ok n) after
    printed_long l =
        let a = p.printed.answer in
        let told = told_report g a n p.printed.returned in
        record {
          text = report g a;
          serves = record {
            board = board;
            chosen = chosen;
            answer = a;
            right = subst (λ (o : Option Denial). RightUnless o (pile_of h board) g a) (long_enough l) p.printed.right;
            carries = p.carries;
            is = told.0;
          };
          returned = ap (λ (k : ℕ). Ok k) told.1;
          page = p.printed.page;
        }

    pub printed_never_short : Short before (Ok n) after
    printed_never_short s =
        let a = p.printed.answer in
        let some = some_denial (unread g) (not (too_wide g)) in
        let denies : print_denial g (length before) ≡ Some some.0 = ap (λ (b : Bool). or_else (unread g) (unless (not (too_wide g)) Wide (unless b Page None))) (lt-leb 17934 (length before) s) ∙ some.1 in
        let is : a ≡ denied some.0 = subst (λ (o : Option Denial). RightUnless o (pile_of h board) g a) denies p.printed.right in
        let other : Ok n ≡ Err some.0 = p.printed.returned ∙ ap (answered g) is in
        let z : ◌≡◌ {A = ℕ} 0 1 = cc in
        absurd (omega arith)

  module _ (d : Denial) (after : List ℕ) (p : LawfullyPrinted (pile_of h board) g before (Err d) after) where
    is_denial : p.printed.answer ≡ denied d
    is_denial = answered_denied g p.printed.answer d p.printed.returned

    -- a denied print leaves the page alone
    pub page_kept : after ≡ before
    unfolding report
    page_kept = p.printed.page ∙ ap (λ (a : Answer). laid (report g a) before) is_denial

    pub denial_told : 17934 ≤ length before → ToldOf h g (denial_text d 0 (denial_position d))
    denial_told l = record {
      board = board;
      chosen = chosen;
      answer = denied d;
      right = subst (λ (o : Option Denial). RightUnless o (pile_of h board) g (denied d)) (long_enough l) (subst (λ (a : Answer). RightUnless (print_denial g (length before)) (pile_of h board) g a) is_denial p.printed.right);
      carries = λ n. absurd (n tt);
      is = refl;
    }

-- what stands on a page fits it
pub told_fits : (Serves : List ℕ → Type 0) (before : List ℕ) (r : Result ℕ Denial) (after : List ℕ) → length after ≡ length before → Short before r after → Long Serves before r after → IfOk r (λ n. n ≤ length before)
told_fits Serves before r after kept short long = elim (cases_lt (length before) 17934) [
  | inl s ↦ subst (λ (x : Result ℕ Denial). IfOk x (λ n. n ≤ length before)) (sym (short s).0) tt
  | inr l ↦
      let t = long l in
      let fits : length t.text ≤ length before = omega (arith, kept, ap length t.page, length-append t.text (drop (length t.text) before)) in
      subst (λ (x : Result ℕ Denial). IfOk x (λ n. n ≤ length before)) (sym t.returned) fits
]

-- a whole file is told in one way
pub one_telling : (h : Heading) (g : Content) → Sound g → (x y : List ℕ) → ToldOf h g x → ToldOf h g y → x ≡ y
one_telling h g sound x y p q =
    let same-board : q.board ≡ p.board =
    let one = p.chosen in let two = q.chosen in cc in
    let right : RightUnless (print_denial g 17934) (pile_of h p.board) g q.answer = subst (λ (b : Board). RightUnless (print_denial g 17934) (pile_of h b) g q.answer) same-board q.right in
    let same = same_printed (pile_of h p.board) (piled_rules h.strong (eqb h.barrier 1) (meaning_of p.board) (board_rules p.board)) g sound 17934 p.answer q.answer p.right right in
    p.is ∙ ap (told_as g) same ∙ sym q.is
