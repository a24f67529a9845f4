-- From what a judge answered to what a print promises.
use Rattle.std.proofs.Common.{◌≡◌, ℕ, zero, suc, ◌<◌, ◌≤◌, List, ◌++◌, length, drop, replicate, Some, None, Ok, Err, Option, sym, refl, ap, ◌∙◌, subst, arith}
use Rattle.std.specs.List.{AllByRecursion}
use Rattle.std.proofs.lemmas.List.{take_at, length-replicate}
use Rattle.std.proofs.ByRecursion.{All-append, All-drop}
use Rattle.event.specs.declared.denial.Denial.{Denial}
use Rattle.event.specs.declared.denial.Denial.TheVariants.{Page}
use Rattle.execution.specs.Content.{Content}
use Rattle.execution.specs.Sound.{Sound}
use Rattle.model.specs.Meaning.{Meaning, Rules}
use Rattle.verdict.specs.declared.verdict.Verdict.{Verdict}
use Rattle.verdict.specs.declared.verdict.Verdict.TheVariants.{Allowed as is_allowed, Cycle as has_cycle, NoPlacement as has_no_placement}
use Rattle.verdict.specs.States.{as_closed}
use Rattle.verdict.specs.Denials.{judge_denial}
use Rattle.verdict.specs.Answers.{Answer, allowed, cyclic, no_placement, denied, Found, RightUnless, joined, told, written}
use Rattle.verdict.specs.Dealings.{judge}
use Rattle.verdict.specs.Law.{Carries, Lawful}
use Rattle.verdict.proofs.Fitting.{answers_fit}
use Rattle.report.specs.Texts.{Written}
use Rattle.report.proofs.Columns.{Fits, Listable}
use Rattle.report.specs.Reports.{report}
use Rattle.report.specs.Flat.{cycle_length, from_sheet}
use Rattle.report.specs.Printing.{answered, LawfullyPrinted}
use Rattle.report.proofs.Onward.{written_start}
use Rattle.report.proofs.Reporting.{sheet_reported, found_fits, judge_of, denied_too, denied_by_page, not_denied}

-- a verdict is told of what is found, and a denial of what is denied
told_found : (o : Option Denial) (m : Meaning) (g : Content) (a : Answer) (v : Verdict) → RightUnless o m g a → Ok v ≡ told a → (o ≡ None) × Found m g a
told_found None m g a v r e = (refl, r)
told_found (Some d) m g a v r e =
    let other : told a ≡ Err d = ap told r in
    let z : ◌≡◌ {A = ℕ} 0 1 = cc in
    absurd (omega arith)

told_denied : (o : Option Denial) (m : Meaning) (g : Content) (a : Answer) (d : Denial) → RightUnless o m g a → Err d ≡ told a → o ≡ Some d
told_denied None m g (allowed lists orders) d r e = cc
told_denied None m g (cyclic k xs) d r e = cc
told_denied None m g no_placement d r e = cc
told_denied None m g (denied c) d r e = absurd r
told_denied (Some c) m g a d r e =
    let other : told a ≡ Err c = ap told r in
    let same : c ≡ d = cc in
    ap (λ (x : Denial). Some x) same

answered_ok : (g : Content) (a : Answer) (v : Verdict) → Ok v ≡ told a → Ok (length (report g a)) ≡ answered g a
answered_ok g (allowed lists orders) v e = refl
answered_ok g (cyclic k xs) v e = refl
answered_ok g no_placement v e = refl
answered_ok g (denied d) v e = cc

-- a verdict is reported as what it is told of
verdict_text : (m : Meaning) (g : Content) (a : Answer) (v : Verdict) (rest : List ℕ) → Found m g a → Ok v ≡ told a → from_sheet g v m.orders (written a ++ rest) ≡ report g a
unfolding from_sheet
verdict_text m g (allowed lists orders) v rest f e =
    let is : v ≡ is_allowed = cc in
    ap (λ (x : Verdict). from_sheet g x m.orders ((joined lists ++ joined orders) ++ rest)) is ∙ sheet_reported m g f.0 lists orders rest f.1
verdict_text m g (cyclic k xs) v rest f e =
    let is : v ≡ has_cycle k (length xs) = cc in
    ap (λ (x : Verdict). from_sheet g x m.orders (xs ++ rest)) is ∙ ap (λ (ys : List ℕ). report g (cyclic k ys)) (take_at xs rest (length xs) refl)
verdict_text m g no_placement v rest f e =
    let is : v ≡ has_no_placement = cc in
    ap (λ (x : Verdict). from_sheet g x m.orders rest) is
verdict_text m g (denied d) v rest f e = absurd f

-- a cycle is all that is written
cycle_written : (a : Answer) (v : Verdict) → Ok v ≡ told a → cycle_length v ≤ length (written a)
cycle_written (allowed lists orders) v e =
    let is : v ≡ is_allowed = cc in
    omega (arith, ap cycle_length is)
cycle_written (cyclic k xs) v e =
    let is : v ≡ has_cycle k (length xs) = cc in
    omega (arith, ap cycle_length is)
cycle_written no_placement v e =
    let is : v ≡ has_no_placement = cc in
    omega (arith, ap cycle_length is)
cycle_written (denied d) v e = cc

pub zeros_long : length (replicate {A = ℕ} 1280 0) ≡ 1280
zeros_long = length-replicate {A = ℕ} 1280 0

pub zeros_fit : (n : ℕ) → AllByRecursion Fits (replicate n 0)
zeros_fit zero = tt
zeros_fit (suc n) = (omega arith, zeros_fit n)

module _ (m : Meaning) (g : Content) (before zeros sheet : List ℕ) (long : length zeros ≡ 1280) where
  module _ (v : Verdict) (l : Lawful m (as_closed g) zeros (Ok v) sheet) where
    found : (judge_of g ≡ None) × Found m g l.judged.answer
    found =
        let f = told_found (judge_denial (as_closed g) (length zeros)) m g l.judged.answer v l.judged.right l.judged.returned in
        (subst (λ (n : ℕ). judge_denial (as_closed g) n ≡ None) long f.0, f.1)

    pub printed_report : 17934 ≤ length before → (end : ℕ) (after : List ℕ) → Written 0 (report g l.judged.answer) before end after → LawfullyPrinted m g before (Ok end) after
    printed_report room end after w =
        let a = l.judged.answer in
        let start = written_start (report g a) before end after w in
        record {
          printed = record {
            answer = a;
            right = subst (λ (o : Option Denial). RightUnless o m g a) (sym (not_denied g (length before) found.0 room)) found.1;
            returned = ap (λ (n : ℕ). Ok n) start.0 ∙ answered_ok g a v l.judged.returned;
            page = start.1;
          };
          carries = λ _. subst (λ (n : ℕ). Carries (as_closed g) (judge m n a) (as_closed g)) long l.carries;
        }

    pub printed_short : length before < 17934 → LawfullyPrinted m g before (Err Page) before
    unfolding report
    printed_short short = record {
      printed = record {
        answer = denied Page;
        right = subst (λ (o : Option Denial). RightUnless o m g (denied Page)) (sym (denied_by_page g (length before) found.0 short)) refl;
        returned = refl;
        page = refl;
      };
      carries = λ n. absurd (n tt);
    }

    sheet_is : sheet ≡ written l.judged.answer ++ drop (length (written l.judged.answer)) zeros
    sheet_is = l.judged.sheet

    pub printed_verdict : 17934 ≤ length before → (k end : ℕ) (after : List ℕ) → k ≡ m.orders → Written 0 (from_sheet g v k sheet) before end after → LawfullyPrinted m g before (Ok end) after
    printed_verdict room k end after all w =
        let a = l.judged.answer in
        let text = ap (λ (n : ℕ). from_sheet g v n sheet) all ∙ ap (from_sheet g v m.orders) sheet_is ∙ verdict_text m g a v (drop (length (written a)) zeros) found.1 l.judged.returned in
        printed_report room end after (subst (λ (xs : List ℕ). Written 0 xs before end after) text w)

    -- a cycle fits the sheet
    pub cycle_fits : Rules m → Sound g → cycle_length v ≤ 1280
    cycle_fits rules sound =
        let a = l.judged.answer in
        let fits = answers_fit m rules (as_closed g) sound (length zeros) a l.judged.right in
        omega (arith, cycle_written a v l.judged.returned)

    -- the numbers on the sheet are of few columns
    pub sheet_listable : Rules m → Sound g → AllByRecursion Fits zeros → length sheet ≡ 1280 → Listable sheet
    sheet_listable rules sound none many = record {
      few = omega arith;
      each = subst (λ (xs : List ℕ). AllByRecursion Fits xs) (sym l.judged.sheet)
          (All-append Fits (written l.judged.answer) (drop (length (written l.judged.answer)) zeros) (found_fits m rules g sound l.judged.answer found.1) (All-drop Fits (length (written l.judged.answer)) zeros none));
    }

  pub printed_denied : (d : Denial) → Lawful m (as_closed g) zeros (Err d) sheet → LawfullyPrinted m g before (Err d) before
  unfolding report
  printed_denied d l =
      let by = told_denied (judge_denial (as_closed g) (length zeros)) m g l.judged.answer d l.judged.right l.judged.returned in
      let by_graph : judge_of g ≡ Some d = subst (λ (n : ℕ). judge_denial (as_closed g) n ≡ Some d) long by in
      record {
        printed = record {
          answer = denied d;
          right = subst (λ (o : Option Denial). RightUnless o m g (denied d)) (sym (denied_too g (length before) d by_graph)) refl;
          returned = refl;
          page = refl;
        };
        carries = λ n. absurd (n tt);
      }
