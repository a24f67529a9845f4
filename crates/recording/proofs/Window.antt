-- How far into a file its meaning reaches: 1,025 lines, of 34 bytes each.
use Rattle.std.proofs.Common.{◌≡◌, ℕ, zero, suc, ◌+◌, ◌-◌, ◌*◌, ◌<◌, ◌≤◌, Bool, true, false, leb, List, [], ◌∷◌, length, take, Some, None, Option, sym, refl, ap, ◌∙◌, inl, inr, arith, take_all}
use lib.Seq.{take-nil}
use Rattle.std.proofs.lemmas.List.{length-take, length-take-le, get_or-take}
use Rattle.std.proofs.lemmas.Bool.{leb-true, and_parts, cases_eq, cases_lt}
use Rattle.event.specs.declared.denial.Denial.{Denial}
use Rattle.event.specs.declared.denial.Denial.TheVariants.{Line, Frame}
use Rattle.event.specs.Denials.{unless}
use Rattle.recording.specs.declared.fault.Fault.{Fault}
use Rattle.recording.specs.declared.layout.LineKind.{LineKind}
use Rattle.recording.specs.Lines.{lines}
use Rattle.recording.specs.Layout.{kind}
use Rattle.recording.specs.Faults.{fault}
use Rattle.recording.specs.Meaning.{Stage, unopened, taking, ended, due, in_frame, kind_denial, line_denial, line_step, Outcome, unless_denied, run, meaning}
use Rattle.recording.proofs.Lines.{first, after, lines_by_first, no_newline_inside, first_of_take, after_of_take}
use Rattle.recording.proofs.Letters.{kind_none_by_length, kind_none_by_end}
use Rattle.recording.proofs.Steps.{unknown_line, run_stops}

in_frame_low : (n : ℕ) (s : Stage) (k : LineKind) → in_frame n s k ≡ true → n ≤ 1024
in_frame_low n s k e = leb-true n 1024 (and_parts (due s k) (leb n 1024) e).1

unless_none : (b : Bool) (d : Denial) (more : Option Denial) → unless b d more ≡ None → b ≡ true
unless_none true d more e = refl
unless_none false d more e = let z : ◌≡◌ {A = ℕ} 0 1 = cc in absurd (omega arith)

-- a line that is not denied has its number and its length
passed_low : (n : ℕ) (s : Stage) (line : List ℕ) (o : Option LineKind) → kind_denial o n s line ≡ None → n ≤ 1024
passed_low n s line None e = let z : ◌≡◌ {A = ℕ} 0 1 = cc in omega arith
passed_low n s line (Some k) e = in_frame_low n s k (unless_none (in_frame n s k) Frame _ e)

pub passed_number : (n : ℕ) (s : Stage) (line : List ℕ) → line_denial n s line ≡ None → n ≤ 1024
unfolding line_denial
passed_number n s line e = passed_low n s line (kind line) e

pub passed_length : (n : ℕ) (s : Stage) (line : List ℕ) → line_denial n s line ≡ None → length line ≡ 34
passed_length n s line e =
    elim (cases_eq (length line) 34) [
      | inl long ↦ long
      | inr other ↦
          let l = unknown_line n s line (kind_none_by_length line other)
          in let z : ◌≡◌ {A = ℕ} 0 1 = cc in absurd (omega arith)
    ]

-- a line that is cut off after 34 bytes or more is denied like the whole one
cut_unknown : (bs : List ℕ) (m : ℕ) → 34 ≤ m → m < length (first bs) → kind (take m (first bs)) ≡ None
cut_unknown bs m low cut =
    elim (cases_eq m 34) [
      | inl is ↦ kind_none_by_end (take m (first bs)) (λ e. no_newline_inside bs 33 (omega arith) (sym (get_or-take m (first bs) 33 0 (omega arith)) ∙ e))
      | inr other ↦ kind_none_by_length (take m (first bs)) (λ e. other (sym (length-take-le m (first bs) (omega arith)) ∙ e))
    ]

unless_same : (d : Option Denial) (n : ℕ) (s : Stage) (x y : Outcome) → (d ≡ None → x ≡ y) → unless_denied d n s x ≡ unless_denied d n s y
unless_same None n s x y h = h refl
unless_same (Some d) n s x y h = refl

run_same : (n : ℕ) (s : Stage) (l : List ℕ) (ls ms : List (List ℕ)) → (line_denial n s l ≡ None → run (suc n) (line_step s l) ls ≡ run (suc n) (line_step s l) ms) → run n s (l ∷ ls) ≡ run n s (l ∷ ms)
unfolding run
run_same n s l ls ms h = unless_same (line_denial n s l) n s (run (suc n) (line_step s l) ls) (run (suc n) (line_step s l) ms) h

module _ (n m : ℕ) (s : Stage) (bs : List ℕ) (some : 0 < length bs) (room : 34 ≤ m) where
  some_taken : 0 < length (take m bs)
  some_taken = simp length-take (omega arith)

  -- the first line stands whole in the first m bytes
  line_fits : length (first bs) ≤ m → (line_denial n s (first bs) ≡ None → run (suc n) (line_step s (first bs)) (lines (after bs)) ≡ run (suc n) (line_step s (first bs)) (lines (take (m - length (first bs)) (after bs)))) → run n s (lines bs) ≡ run n s (lines (take m bs))
  line_fits fits later =
      let whole : lines bs ≡ first bs ∷ lines (after bs) = lines_by_first bs some
      in let part : lines (take m bs) ≡ first bs ∷ lines (take (m - length (first bs)) (after bs)) =
      lines_by_first (take m bs) some_taken ∙ rw (first_of_take m bs, after_of_take m bs fits, take_all m (first bs) fits)
      in rw (whole, part) (run_same n s (first bs) (lines (after bs)) (lines (take (m - length (first bs)) (after bs))) later)

  -- the first line is longer, so it is denied
  line_over : m < length (first bs) → run n s (lines bs) ≡ run n s (lines (take m bs))
  line_over over =
      let whole : lines bs ≡ first bs ∷ lines (after bs) = lines_by_first bs some
      in let part : lines (take m bs) ≡ take m (first bs) ∷ lines (after (take m bs)) = lines_by_first (take m bs) some_taken ∙ rw (first_of_take m bs)
      in rw (whole, part)
      (run_stops n s (first bs) Line (lines (after bs)) (unknown_line n s (first bs) (kind_none_by_length (first bs) (λ e. omega arith)))
      ∙ sym (run_stops n s (take m (first bs)) Line (lines (after (take m bs))) (unknown_line n s (take m (first bs)) (cut_unknown bs m room over))))

-- with k lines to come before the last that may be read, and room for them and it
window : (k n m : ℕ) (s : Stage) (bs : List ℕ) → n + k ≡ 1025 → 34 * k + 34 ≤ m → run n s (lines bs) ≡ run n s (lines (take m bs))
window k n m s [] e room = ap (λ xs. run n s (lines xs)) (sym (take-nil m))
window zero n m s (b ∷ bs) e room =
    elim (cases_lt m (length (first (b ∷ bs)))) [
      | inl over ↦ line_over n m s (b ∷ bs) (omega arith) (omega arith) over
      | inr fits ↦ line_fits n m s (b ∷ bs) (omega arith) (omega arith) fits (λ none. absurd (omega (arith, passed_number n s (first (b ∷ bs)) none)))
    ]
window (suc k) n m s (b ∷ bs) e room =
    elim (cases_lt m (length (first (b ∷ bs)))) [
      | inl over ↦ line_over n m s (b ∷ bs) (omega arith) (omega arith) over
      | inr fits ↦ line_fits n m s (b ∷ bs) (omega arith) (omega arith) fits (λ none.
          let long = passed_length n s (first (b ∷ bs)) none
          in window k (suc n) (m - length (first (b ∷ bs))) (line_step s (first (b ∷ bs))) (after (b ∷ bs)) (omega arith) (omega arith))
    ]

-- only the first 34,850 bytes of a file matter
pub only_the_first_bytes : (bytes : List ℕ) → meaning bytes ≡ meaning (take 34850 bytes)
unfolding meaning
only_the_first_bytes bytes = window 1024 1 34850 unopened bytes refl (omega arith)

fault_line : (n : ℕ) (d : Denial) (f : Fault) → Some (fault n d) ≡ Some f → n ≡ f.line
fault_line n d f e = let same : fault n d ≡ f = cc in ap (λ (x : Fault). x.line) same

within_by : (d : Option Denial) (n : ℕ) (s : Stage) (o : Outcome) (f : Fault) → n ≤ 1025 → (d ≡ None → o.fault ≡ Some f → f.line ≤ 1025) → (unless_denied d n s o).fault ≡ Some f → f.line ≤ 1025
within_by None n s o f low later e = later refl e
within_by (Some d) n s o f low later e = omega (arith, fault_line n d f e)

run_within : (ls : List (List ℕ)) (n : ℕ) (s : Stage) (f : Fault) → n ≤ 1025 → (run n s ls).fault ≡ Some f → f.line ≤ 1025
unfolding run
run_within [] n unopened f low e = omega (arith, fault_line n Frame f e)
run_within [] n (taking h g) f low e = omega (arith, fault_line n Frame f e)
run_within [] n (ended h g) f low e = let z : ◌≡◌ {A = ℕ} 0 1 = cc in absurd (omega arith)
run_within (l ∷ ls) n s f low e =
    within_by (line_denial n s l) n s (run (suc n) (line_step s l) ls) f low (λ none e'. run_within ls (suc n) (line_step s l) f (omega (arith, passed_number n s l none)) e') e

-- a fault stands on one of the first 1,025 lines
pub fault_within : (bytes : List ℕ) (f : Fault) → (meaning bytes).fault ≡ Some f → f.line ≤ 1025
unfolding meaning
fault_within bytes f e = run_within (lines bytes) 1 unopened f (omega arith) e
