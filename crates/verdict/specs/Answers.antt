-- What a judge answers, and when that is right.
use Rattle.std.specs.Prelude.{◌≡◌, ℕ, ◌<◌, List, [], ◌∷◌, ◌++◌, length, drop, Some, None, Ok, Err, Option, Result}
use Rattle.event.specs.declared.denial.Denial.{Denial}
use Rattle.execution.specs.Content.{Content}
use Rattle.cycles.specs.Cycles.{Acyclic, FirstCycle}
use Rattle.model.specs.Meaning.{Meaning, Serves}
use Rattle.verdict.specs.declared.verdict.Verdict.{Verdict}
use Rattle.verdict.specs.declared.verdict.Verdict.TheVariants.{Allowed as is_allowed, Cycle as has_cycle, NoPlacement as has_no_placement}
use Rattle.verdict.specs.Completions.{Allowed}
use Rattle.verdict.specs.Shown.{Shown}
use Rattle.verdict.specs.States.{State}
use Rattle.verdict.specs.Denials.{judge_denial}

-- an answer with all that it shows
pub data Answer : Type 0 where
  -- a list of all events for each order, and each location's modification order
  allowed : (lists orders : List (List ℕ)) → Answer
  -- forbidden as the placements stand: the lowest order with a cycle, and its first cycle
  cyclic : (order : ℕ) (events : List ℕ) → Answer
  -- forbidden at every placement
  no_placement : Answer
  -- no verdict, and nothing shown
  denied : Denial → Answer

-- what is found where nothing denies the judge, case by case; no two cases hold of one graph
abbrev pub Found : Meaning → Content → Answer → Type 0
Found m g (allowed lists orders) = (h : Content) × Shown m g h lists orders
Found m g (cyclic k xs) = (k < m.orders) × ((j : ℕ) → j < k → Acyclic (m.pairs g j)) × FirstCycle (m.pairs g k) xs
Found m g no_placement = Serves m g × (Allowed m g → ⊥)
Found m g (denied d) = ⊥

-- a denial where there is one, and else what is found
abbrev pub RightUnless : Option Denial → Meaning → Content → Answer → Type 0
RightUnless (Some d) m g a = a ≡ denied d
RightUnless None m g a = Found m g a

-- the right answer of a judge by m on a sheet of n numbers
abbrev pub RightAnswer : Meaning → State → ℕ → Answer → Type 0
RightAnswer m s n a = RightUnless (judge_denial s n) m s.content a

-- what the call returns
abbrev pub told : Answer → Result Verdict Denial
told (allowed lists orders) = Ok is_allowed
told (cyclic k xs) = Ok (has_cycle k (length xs))
told no_placement = Ok has_no_placement
told (denied d) = Err d

-- lists one after the other
abbrev pub joined : List (List ℕ) → List ℕ
joined [] = []
joined (xs ∷ xss) = xs ++ joined xss

-- what the call writes
abbrev pub written : Answer → List ℕ
written (allowed lists orders) = joined lists ++ joined orders
written (cyclic k xs) = xs
written no_placement = []
written (denied d) = []

-- a sheet with xs written at its start; past that it stays
abbrev pub laid : List ℕ → List ℕ → List ℕ
laid xs sheet = xs ++ drop (length xs) sheet
