-- The law over all dealings with a graph.
use Rattle.std.specs.Prelude.{◌≡◌, ℕ, Bool, true, false, T, List, [], ◌∷◌, ◌++◌, length, Decides, Result, slice_index_or}
use Rattle.event.specs.declared.denial.Denial.{Denial}
use Rattle.execution.specs.Content.{Content}
use Rattle.execution.specs.Entries.{Entry, denial, step}
use Rattle.model.specs.Meaning.{Meaning, Rules, Over}
use Rattle.verdict.specs.declared.verdict.Verdict.{Verdict}
use Rattle.verdict.specs.Completions.{Allowed}
use Rattle.verdict.specs.Shown.{ReadsLast}
use Rattle.verdict.specs.States.{State, as_open, as_closed}
use Rattle.verdict.specs.Answers.{Answer, allowed, cyclic, no_placement, denied}
use Rattle.verdict.specs.Judging.{Judged}
use Rattle.verdict.specs.Dealings.{Dealing, entry, judge, close, Run, state, Opening}

-- the answer is allowed
abbrev pub answers_allowed : Answer → Bool
answers_allowed (allowed lists orders) = true
answers_allowed (cyclic k xs) = false
answers_allowed no_placement = false
answers_allowed (denied d) = false

-- the answer is forbidden, by a cycle or at every placement
abbrev pub answers_forbidden : Answer → Bool
answers_forbidden (allowed lists orders) = false
answers_forbidden (cyclic k xs) = true
answers_forbidden no_placement = true
answers_forbidden (denied d) = false

-- the judge is denied
abbrev pub is_denied : Answer → Bool
is_denied (allowed lists orders) = false
is_denied (cyclic k xs) = false
is_denied no_placement = false
is_denied (denied d) = true

-- what holds of the dealings ds, the last of them first, with a graph that was opened as start
pub record Law (start : State) (ds : List Dealing) : Type 0 where
  -- each judge that is not denied answers allowed exactly when some full modification order,
  -- extending the placements made by then, leaves every order of its model free of cycles
  pub exact : (later before : List Dealing) (m : Meaning) (n : ℕ) (a : Answer) → ds ≡ later ++ (judge m n a ∷ before) → (T (is_denied a) → ⊥)
      → Decides (answers_allowed a) (Allowed m (state start before).content)
  -- whenever it answers allowed, in the first list each linked read stands after its source,
  -- with no other write to its location between them
  pub shown : (later before : List Dealing) (m : Meaning) (n : ℕ) (lists orders : List (List ℕ)) → ds ≡ later ++ (judge m n (allowed lists orders) ∷ before)
      → ReadsLast (state start before).content (slice_index_or lists 0 [])
  -- once a judge answered forbidden, no later judge of that model, or of a pile over it, answers allowed
  pub lasting : (later between before : List Dealing) (upper lower : Meaning) (n k : ℕ) (a b : Answer)
      → ds ≡ later ++ (judge upper n a ∷ (between ++ (judge lower k b ∷ before))) → T (answers_forbidden b) → Over upper lower → T (answers_allowed a) → ⊥

-- the law holds of every run from every opening
abbrev pub EveryRun : Type 0
EveryRun = (start : State) → Opening start → (ds : List Dealing) → Run start ds → Law start ds

-- whatever was dealt with since the opening, the dealing leads from the one state to the other,
-- and the law holds of all of it
pub record Carries (before : State) (d : Dealing) (after : State) : Type 0 where
  pub runs : (start : State) → Opening start → (ds : List Dealing) → Run start ds → state start ds ≡ before → Run start (d ∷ ds) × (state start (d ∷ ds) ≡ after)
  pub lawful : (start : State) → Opening start → (ds : List Dealing) → Run start ds → state start ds ≡ before → Law start (d ∷ ds)

-- the call is judged rightly, and this judge with its answer carries every run that makes its graph on
pub record Lawful (m : Meaning) (s : State) (before : List ℕ) (result : Result Verdict Denial) (after : List ℕ) : Type 0 where
  pub judged : Judged m s before result after
  pub carries : Carries s (judge m (length before) judged.answer) s

-- whatever is called on a graph, as the calls' contracts have it, carries every run on: so the calls of any program form a run
pub record CallsCarryOn : Type 0 where
  -- record, link and place, which answer their denial and are one step
  pub entries : (g : Content) (e : Entry) → Carries (as_open g) (entry e (denial g e)) (as_open (step g e))
  pub closing : (g : Content) → Carries (as_open g) close (as_closed g)
  pub judges : (m : Meaning) → Rules m → (s : State) (before : List ℕ) (result : Result Verdict Denial) (after : List ℕ)
      → Judged m s before result after → Lawful m s before result after
