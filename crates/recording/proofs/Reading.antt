-- A reader's next line, and what it makes of a stage.
use Rattle.std.proofs.Common.{◌≡◌, ℕ, suc, ◌+◌, ◌-◌, ◌≤◌, Bool, true, false, List, [], ◌∷◌, drop, Some, None, Ok, Err, Result, sym, refl, ap, ◌∙◌, subst, add-one, arith}
use Rattle.std.proofs.lemmas.List.{drop-drop}
use Rattle.event.specs.declared.denial.Denial.{Denial}
use Rattle.event.specs.declared.denial.Denial.TheVariants.{Frame}
use Rattle.execution.specs.Content.{Content, opening}
use Rattle.recording.specs.declared.fault.Fault.{Fault}
use Rattle.recording.specs.declared.fault.Denied.{Denied}
use Rattle.recording.specs.declared.header.Header.{Header}
use Rattle.recording.specs.declared.reader.Reader.{Reader}
use Rattle.recording.specs.Lines.{lines}
use Rattle.recording.specs.Faults.{fault}
use Rattle.recording.specs.Headings.{Heading, heading_of}
use Rattle.recording.specs.Meaning.{Stage, unopened, line_denial, line_step, Outcome, stopped, unfinished, meaning, taking}
use Rattle.recording.specs.Left.{left, ahead}
use Rattle.recording.specs.Answers.{Fills, Takes, opened, whole}
use Rattle.recording.specs.OneLine.{Heads, Enters, stage}
use Rattle.recording.proofs.Steps.{run_stops, run_steps, run_ends}

-- the denial of a line, which was given the line's number
pub denied : {A : Type 0} {r : Result A Denial} (n : ℕ) (x : Denied) → (d : Denial) × (r ≡ Err d) × (x ≡ record { line = n; denial = d }) → (r ≡ Err x.denial) × (x.line ≡ n)
denied n x (d, e, is) = (e ∙ ap (λ (y : Denied). Err y.denial) (sym is), ap (λ (y : Denied). y.line) is)

pub ahead_ends : (a : Reader) (s : Stage) → lines (left a) ≡ [] → ahead a s ≡ record { stage = s; fault = unfinished (suc a.line) s }
ahead_ends a s e = rw e (run_ends (suc a.line) s)

-- a file that ends before its Z line
pub missing_at : (a b : Reader) (s : Stage) (x : Denied) (f : Fault) → lines (left a) ≡ [] → b ≡ a → x ≡ record { line = b.line + 1; denial = Frame } → f ≡ fault x.line x.denial → unfinished (suc a.line) s ≡ Some (fault (suc a.line) Frame) → ahead a s ≡ stopped s f
missing_at a b s x f e same is_x is_f early =
    let n : b.line + 1 ≡ suc a.line = add-one b.line ∙ ap (λ (r : Reader). suc r.line) same
    in ahead_ends a s e ∙ rw (early, is_f, is_x, n)

pub unfinished_yet : (n : ℕ) (e : Bool) (h : Heading) (g : Content) → e ≡ false → unfinished n (stage e h g) ≡ Some (fault n Frame)
unfinished_yet n e h g is = rw is

-- a file that ends after it
pub whole_at : (a : Reader) (e : Bool) (h : Heading) (g : Content) → lines (left a) ≡ [] → e ≡ true → ahead a (stage e h g) ≡ whole h g
whole_at a e h g none is = ahead_ends a (stage e h g) none ∙ rw is

module _ (a b : Reader) (l : List ℕ) (next : lines (left a) ≡ l ∷ lines (left b)) (counted : b.line ≡ a.line + 1) where
  pub ahead_steps : (s : Stage) → line_denial b.line s l ≡ None → ahead a s ≡ ahead b (line_step s l)
  ahead_steps s e =
      let n : b.line ≡ suc a.line = counted ∙ add-one a.line
      in rw next (rw (← n) (run_steps b.line s l (lines (left b)) e))

  pub ahead_stops : (s : Stage) (d : Denial) → line_denial b.line s l ≡ Some d → ahead a s ≡ stopped s (fault b.line d)
  ahead_stops s d e =
      let n : b.line ≡ suc a.line = counted ∙ add-one a.line
      in rw next (rw (← n) (run_stops b.line s l d (lines (left b)) e))

  pub headed : (r : Result Header Denial) (h : Header) → Heads b.line l r → r ≡ Ok h → ahead a unopened ≡ ahead b (opened h)
  headed r h heads e =
      let heads' : Heads b.line l (Ok h) = subst (Heads b.line l) e heads
      in ahead_steps unopened heads'.0 ∙ ap (ahead b) heads'.1

  pub not_headed : (r : Result Header Denial) (x : Denied) → Heads b.line l r → (r ≡ Err x.denial) × (x.line ≡ b.line) → ahead a unopened ≡ stopped unopened (fault x.line x.denial)
  not_headed r x heads (e, at) =
      let heads' : Heads b.line l (Err x.denial) = subst (Heads b.line l) e heads
      in rw at (ahead_stops unopened x.denial heads')

  pub entered_on : (e e' : Bool) (g g' : Content) (r : Result Bool Denial) → Enters b.line e l g g' r → r ≡ Ok e' → (h : Heading) → ahead a (stage e h g) ≡ ahead b (stage e' h g')
  entered_on e e' g g' r enters is h =
      let enters' : Enters b.line e l g g' (Ok e') = subst (Enters b.line e l g g') is enters
      in ahead_steps (stage e h g) (enters' h).0 ∙ ap (ahead b) (enters' h).1

  pub not_entered : (e : Bool) (g g' : Content) (r : Result Bool Denial) (x : Denied) → Enters b.line e l g g' r → (r ≡ Err x.denial) × (x.line ≡ b.line) → (h : Heading) → (ahead a (stage e h g) ≡ stopped (stage e h g) (fault x.line x.denial)) × (g' ≡ g)
  not_entered e g g' r x enters (is, at) h =
      let enters' : Enters b.line e l g g' (Err x.denial) = subst (Enters b.line e l g g') is enters
      in (rw at (ahead_stops (stage e h g) x.denial (enters'.1 h)), enters'.0)

-- the lines of a that b has behind it
abbrev pub Taken : Reader → Reader → Type 0
Taken a b = (a.line ≤ b.line) × (lines (left b) ≡ drop (b.line - a.line) (lines (left a)))

pub taken_none : (a : Reader) → Taken a a
taken_none a = (omega arith, let n : a.line - a.line ≡ 0 = omega arith in rw n)

pub taken_more : (a b c : Reader) (l : List ℕ) → Taken a b → lines (left b) ≡ l ∷ lines (left c) → c.line ≡ b.line + 1 → Taken a c
taken_more a b c l (low, behind) next counted =
    let n : c.line - a.line ≡ (b.line - a.line) + 1 = omega arith
    in (omega arith, ap (drop 1) (sym next ∙ behind) ∙ drop-drop 1 (b.line - a.line) (lines (left a)) ∙ ap (λ k. drop k (lines (left a))) (sym n))

pub taken_to : (a b : Reader) (f : Fault) (n : ℕ) (d : Denial) → Taken a b → f ≡ fault n d → n ≡ b.line → Takes a b (Err f)
taken_to a b f n d (low, behind) is at = rw (is, at) behind

pub taken_all : (a b : Reader) (f : Fault) (n : ℕ) (d : Denial) → Taken a b → lines (left b) ≡ [] → f ≡ fault n d → n ≡ b.line + 1 → Takes a b (Err f)
taken_all a b f n d (low, behind) none is at =
    let k : (b.line + 1) - a.line ≡ (b.line - a.line) + 1 = omega arith
    in rw (is, at, k) (none ∙ ap (drop 1) (sym none ∙ behind) ∙ drop-drop 1 (b.line - a.line) (lines (left a)))

-- a graph that is filled up to a fault
pub filled_to : (o : Outcome) (e : Bool) (h : Heading) (g g' : Content) (f : Fault) → o ≡ stopped (stage e h g) f → g' ≡ g → Fills o h g' (Err f)
filled_to o true h g g' f is same = rw is (refl, sym same)
filled_to o false h g g' f is same = rw is (refl, sym same)

-- a new reader has the whole file ahead
pub all_ahead : (r : Reader) (bytes : List ℕ) → left r ≡ bytes → r.line ≡ 0 → meaning bytes ≡ ahead r unopened
unfolding meaning
all_ahead r bytes e zero = rw (← e, zero)

-- a graph as it is opened for a header
pub opened_for : (h : Header) (g : Content) → g ≡ opening h.size.threads h.size.locations → opened h ≡ taking (heading_of h) g
opened_for h g e = ap (taking (heading_of h)) (sym e)
