-- One line: which rule denies it, and what it makes of a stage.
use Rattle.std.proofs.Common.{◌≡◌, ℕ, suc, true, false, List, [], ◌∷◌, Some, None, sym, refl, ap, ◌∙◌}
use Rattle.event.specs.declared.denial.Denial.{Denial}
use Rattle.event.specs.declared.denial.Denial.TheVariants.{Line, Frame}
use Rattle.recording.specs.declared.layout.LineKind.{LineKind}
use Rattle.recording.specs.Layout.{kind, rest, field_denial, numbers}
use Rattle.recording.specs.Faults.{fault}
use Rattle.recording.specs.Meaning.{Stage, in_frame, own_denial, line_denial, line_step, advanced, stopped, unfinished, run}

module _ (n : ℕ) (s : Stage) (line : List ℕ) where
  pub unknown_line : kind line ≡ None → line_denial n s line ≡ Some Line
  unfolding line_denial
  unknown_line e = rw e

  pub out_of_frame : (k : LineKind) → kind line ≡ Some k → in_frame n s k ≡ false → line_denial n s line ≡ Some Frame
  unfolding line_denial
  out_of_frame k e out = rw (e, out)

  -- the rest of the line as it was cut off
  module _ (k : LineKind) (cut : List ℕ) (known : kind line ≡ Some k) (same : cut ≡ rest line) where
    pub bad_field : (d : Denial) → in_frame n s k ≡ true → field_denial k cut ≡ Some d → line_denial n s line ≡ Some d
    unfolding line_denial
    bad_field d in-it bad = let bad' : field_denial k (rest line) ≡ Some d = ap (field_denial k) (sym same) ∙ bad in rw (known, in-it, bad')

    pub own_line : (f : List ℕ) → in_frame n s k ≡ true → field_denial k cut ≡ None → f ≡ numbers k cut → line_denial n s line ≡ own_denial s k f
    unfolding line_denial
    own_line f in-it good read =
        let good' : field_denial k (rest line) ≡ None = ap (field_denial k) (sym same) ∙ good
        in let read' : f ≡ numbers k (rest line) = read ∙ ap (numbers k) same
        in rw (known, in-it, good', read')

    pub advances : (f : List ℕ) → f ≡ numbers k cut → line_step s line ≡ advanced s k f
    unfolding line_step
    advances f read = let read' : f ≡ numbers k (rest line) = read ∙ ap (numbers k) same in rw (known, read')

  pub run_stops : (d : Denial) (ls : List (List ℕ)) → line_denial n s line ≡ Some d → run n s (line ∷ ls) ≡ stopped s (fault n d)
  unfolding run
  run_stops d ls e = rw e

  pub run_steps : (ls : List (List ℕ)) → line_denial n s line ≡ None → run n s (line ∷ ls) ≡ run (suc n) (line_step s line) ls
  unfolding run
  run_steps ls e = rw e

pub run_ends : (n : ℕ) (s : Stage) → run n s [] ≡ record { stage = s; fault = unfinished n s }
unfolding run
run_ends n s = refl
