-- From what a judge leaves on its sheet to the report.
use Rattle.std.proofs.Common.{◌≡◌, ℕ, ◌+◌, ◌*◌, ◌<◌, ◌≤◌, Bool, true, false, not, leb, List, ◌++◌, length, take, drop, Some, None, Option, sym, refl, ap, ◌∙◌, subst, ap₂, arith}
use Rattle.std.specs.List.{AllByRecursion}
use Rattle.std.proofs.lemmas.List.{append_assoc, length-append, take_at, drop_at}
use Rattle.std.proofs.ByRecursion.{All-append, All-weaker}
use Rattle.std.proofs.lemmas.Bool.{lt-leb, le-leb}
use Rattle.event.specs.declared.denial.Denial.{Denial}
use Rattle.event.specs.declared.denial.Denial.TheVariants.{Wide, Page}
use Rattle.execution.specs.Content.{Content, is_open}
use Rattle.event.specs.Denials.{unless, or_else}
use Rattle.execution.specs.Sound.{Sound}
use Rattle.model.specs.Meaning.{Meaning, Rules}
use Rattle.verdict.specs.declared.verdict.Verdict.TheVariants.{Allowed as is_allowed}
use Rattle.verdict.specs.Shown.{modification_orders, Shown}
use Rattle.verdict.specs.States.{as_closed}
use Rattle.verdict.specs.Denials.{unread, too_wide, judge_denial}
use Rattle.verdict.specs.Answers.{Answer, allowed, cyclic, no_placement, denied, Found, RightUnless, joined, written, laid}
use Rattle.verdict.proofs.Unique.{one_answer}
use Rattle.verdict.proofs.Fitting.{answers_fit}
use Rattle.report.specs.Pages.{report_line}
use Rattle.report.proofs.Columns.{Fits, Listable}
use Rattle.report.specs.Reports.{lines_from, lists_from, writes, open_writes, report}
use Rattle.report.specs.Flat.{cut, orders_from, from_sheet}
use Rattle.report.specs.Printing.{print_denial, answered, ReportsFit, OneReport}
use Rattle.report.proofs.Spelled.{line_length}
use Rattle.report.proofs.Lengths.{lines_length, lists_length}
use Rattle.report.proofs.Cutting.{cut_joined, joined_length}
use Rattle.report.proofs.Counting.{count_few, writes_few, orders_of_all_writes}
use Rattle.report.proofs.Orders.{orders_told}
use Rattle.report.proofs.Small.{Small, fits_all, small_listable, all_joined, lists_long, lists_small, orders_small, orders_few, cycle_small}

-- the lists and orders that stand on a sheet are reported as they are
pub sheet_reported : (m : Meaning) (g h : Content) (lists orders : List (List ℕ)) (rest : List ℕ) → Shown m g h lists orders
    → from_sheet g is_allowed m.orders ((joined lists ++ joined orders) ++ rest) ≡ report g (allowed lists orders)
unfolding from_sheet report
sheet_reported m g h lists orders rest shown =
    let done = shown.placed.completes in
    let n = length g.events in
    let sheet = (joined lists ++ joined orders) ++ rest in
    let regroup : sheet ≡ joined lists ++ (joined orders ++ rest) = append_assoc (joined lists) (joined orders) rest in
    let same_events : length h.events ≡ n = ap length done.events in
    let long : AllByRecursion (λ (xs : List ℕ). length xs ≡ n) lists = subst (λ (k : ℕ). AllByRecursion (λ (xs : List ℕ). length xs ≡ k) lists) same_events (lists_long m g h lists orders shown) in
    let many = joined_length n lists long in
    let front : take (length lists * n) sheet ≡ joined lists = ap (take (length lists * n)) regroup ∙ take_at (joined lists) (joined orders ++ rest) (length lists * n) many in
    let apart : cut (length lists) n (take (length lists * n) sheet) ≡ lists = ap (cut (length lists) n) front ∙ cut_joined n lists long in
    let behind : drop (length lists * n) sheet ≡ joined orders ++ rest = ap (drop (length lists * n)) regroup ∙ drop_at (joined lists) (joined orders ++ rest) (length lists * n) many in
    let all : length (joined orders) ≡ writes g = ap (λ (xss : List (List ℕ)). length (joined xss)) shown.ordered ∙ orders_of_all_writes g h done in
    let row : take (writes g) (drop (length lists * n) sheet) ≡ joined orders = ap (take (writes g)) behind ∙ take_at (joined orders) rest (writes g) all in
    let told : orders_from g.locations 0 0 (joined orders) ≡ lists_from 77 0 orders =
    subst (λ (xss : List (List ℕ)). orders_from g.locations 0 0 (joined xss) ≡ lists_from 77 0 xss) (sym shown.ordered)
    (subst (λ (k : ℕ). orders_from k 0 0 (joined (modification_orders h)) ≡ lists_from 77 0 (modification_orders h)) done.locations (orders_told h done.sound 0 0)) in
    let by-lists : from_sheet g is_allowed (length lists) sheet ≡ report g (allowed lists orders) =
    ap₂ (λ (xss : List (List ℕ)) (ys : List ℕ). report_line 65 (length lists) n (writes g) ++ (lists_from 79 0 xss ++ orders_from g.locations 0 0 ys)) apart row
    ∙ ap (λ (zs : List ℕ). report_line 65 (length lists) n (writes g) ++ (lists_from 79 0 lists ++ zs)) told in
    subst (λ (k : ℕ). from_sheet g is_allowed k sheet ≡ report g (allowed lists orders)) shown.as_many by-lists

-- what an answer shows are numbers of few columns
pub found_fits : (m : Meaning) → Rules m → (g : Content) → Sound g → (a : Answer) → Found m g a → AllByRecursion Fits (written a)
found_fits m rules g sg (allowed lists orders) f =
    All-append Fits (joined lists) (joined orders)
    (all_joined Fits lists (All-weaker Small (λ (xs : List ℕ). AllByRecursion Fits xs) (λ (xs : List ℕ) s. fits_all xs s.each) lists (lists_small m g f.0 lists orders f.1)))
    (all_joined Fits orders (All-weaker Small (λ (xs : List ℕ). AllByRecursion Fits xs) (λ (xs : List ℕ) s. fits_all xs s.each) orders (orders_small m g f.0 lists orders f.1)))
found_fits m rules g sg (cyclic k xs) f =
    let n = length g.events in
    All-weaker (λ x. x < n) Fits (λ x l. omega (arith, sg.few_events)) xs (cycle_small (m.pairs g k) n (rules.inside g sg k) xs f.2.round)
found_fits m rules g sg no_placement f = tt
found_fits m rules g sg (denied d) f = absurd f

-- a line for each number that an answer shows, and one in front
found_length : (m : Meaning) → Rules m → (g : Content) → Sound g → (a : Answer) → Found m g a → length (written a) ≤ 1280 → length (report g a) ≡ 14 + 14 * length (written a)
unfolding report
found_length m rules g sg (allowed lists orders) f few =
    let h = f.0 in
    let shown = f.1 in
    let n = length g.events in
    let one = line_length 65 (length lists) n (writes g) (omega (arith, shown.as_many, rules.few.1)) (omega (arith, sg.few_events)) (omega (arith, writes_few g sg)) in
    let two = lists_length 79 0 lists (omega (arith, shown.as_many, rules.few.1)) (All-weaker Small Listable small_listable lists (lists_small m g h lists orders shown)) in
    let three = lists_length 77 0 orders (omega (arith, orders_few m g h lists orders shown)) (All-weaker Small Listable small_listable orders (orders_small m g h lists orders shown)) in
    omega (arith, length-append (report_line 65 (length lists) n (writes g)) (lists_from 79 0 lists ++ lists_from 77 0 orders), length-append (lists_from 79 0 lists) (lists_from 77 0 orders), length-append (joined lists) (joined orders))
found_length m rules g sg (cyclic k xs) f few =
    let n = length g.events in
    let small : Fits k = omega (arith, f.0, rules.few.1) in
    let one = line_length 88 k (length xs) n small (omega arith) (omega (arith, sg.few_events)) in
    let two = lines_length 67 k 0 xs small (omega arith) (found_fits m rules g sg (cyclic k xs) f) in
    omega (arith, length-append (report_line 88 k (length xs) n) (lines_from 67 k 0 xs))
found_length m rules g sg no_placement f few =
    omega (arith, line_length 78 (open_writes g) (length g.events) (writes g) (omega (arith, count_few (length g.events) (is_open g), sg.few_events)) (omega (arith, sg.few_events)) (omega (arith, writes_few g sg)))
found_length m rules g sg (denied d) f few = absurd f

-- print and judge are denied alike, but for the page
module _ (o : Option Denial) (w l : Bool) where
  abbrev by_graph : Option Denial
  by_graph = or_else o (unless w Wide None)

  abbrev by_page : Option Denial
  by_page = or_else o (unless w Wide (unless l Page None))

without_page : (o : Option Denial) (w l : Bool) → by_page o w l ≡ None → by_graph o w l ≡ None
without_page (Some d) w l e = e
without_page None true l e = refl
without_page None false l e = e

with_page : (o : Option Denial) (w l : Bool) (d : Denial) → by_graph o w l ≡ Some d → by_page o w l ≡ Some d
with_page (Some c) w l d e = e
with_page None true l d e = cc
with_page None false l d e = e

short_page : (o : Option Denial) (w l : Bool) → by_graph o w l ≡ None → l ≡ false → by_page o w l ≡ Some Page
short_page (Some d) w l e s = cc
short_page None true true e s = cc
short_page None true false e s = refl
short_page None false l e s = cc

long_page : (o : Option Denial) (w l : Bool) → by_graph o w l ≡ None → l ≡ true → by_page o w l ≡ None
long_page (Some d) w l e s = e
long_page None true true e s = refl
long_page None true false e s = cc
long_page None false l e s = e

abbrev pub judge_of : Content → Option Denial
judge_of g = judge_denial (as_closed g) 1280

module _ (g : Content) (n : ℕ) where
  pub judged_too : print_denial g n ≡ None → judge_of g ≡ None
  judged_too e = without_page (unread g) (not (too_wide g)) (leb 17934 n) e

  pub denied_too : (d : Denial) → judge_of g ≡ Some d → print_denial g n ≡ Some d
  denied_too d e = with_page (unread g) (not (too_wide g)) (leb 17934 n) d e

  pub denied_by_page : judge_of g ≡ None → n < 17934 → print_denial g n ≡ Some Page
  denied_by_page e s = short_page (unread g) (not (too_wide g)) (leb 17934 n) e (lt-leb 17934 n s)

  pub not_denied : judge_of g ≡ None → 17934 ≤ n → print_denial g n ≡ None
  not_denied e s = long_page (unread g) (not (too_wide g)) (leb 17934 n) e (le-leb 17934 n s)

pub reports_fit : ReportsFit
unfolding report
reports_fit m rules g sg n a = by (print_denial g n) refl
  where
    by : (o : Option Denial) → print_denial g n ≡ o → RightUnless o m g a → length (report g a) ≤ 17934
    by (Some d) e r = omega (arith, ap (λ (x : Answer). length (report g x)) r)
    by None e r =
        let fits = answers_fit m rules (as_closed g) sg 1280 a (subst (λ (o : Option Denial). RightUnless o m g a) (sym (judged_too g n e)) r) in
        omega (arith, found_length m rules g sg a r fits)

-- there is one right answer at most
pub same_printed : (m : Meaning) → Rules m → (g : Content) → Sound g → (n : ℕ) (a b : Answer) → RightUnless (print_denial g n) m g a → RightUnless (print_denial g n) m g b → a ≡ b
same_printed m rules g sg n a b = by (print_denial g n) refl
  where
    by : (o : Option Denial) → print_denial g n ≡ o → RightUnless o m g a → RightUnless o m g b → a ≡ b
    by (Some d) e p q = p ∙ sym q
    by None e p q =
        let none = sym (judged_too g n e) in
        one_answer m rules (as_closed g) sg 1280 a b (subst (λ (o : Option Denial). RightUnless o m g a) none p) (subst (λ (o : Option Denial). RightUnless o m g b) none q)

pub one_report : OneReport
one_report m rules g sg before q r x y j k =
    let same = same_printed m rules g sg (length before) j.answer k.answer j.right k.right in (
      j.returned ∙ ap (answered g) same ∙ sym k.returned,
      j.page ∙ ap (λ (a : Answer). laid (report g a) before) same ∙ sym k.page,
    )
