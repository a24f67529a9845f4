-- Dealings with one graph since its opening, and what they make of it.
use Rattle.std.specs.Prelude.{◌≡◌, ℕ, ◌≤◌, not, T, List, [], ◌∷◌, Option}
use Rattle.event.specs.declared.denial.Denial.{Denial}
use Rattle.execution.specs.Content.{opening}
use Rattle.execution.specs.Entries.{Entry, denial, step}
use Rattle.model.specs.Meaning.{Meaning, Rules}
use Rattle.verdict.specs.States.{State, as_open, as_closed}
use Rattle.verdict.specs.Answers.{Answer, RightAnswer}

-- one dealing, with its answer
pub data Dealing : Type 0 where
  -- record, link or place, with its denial if any
  entry : Entry → Option Denial → Dealing
  -- a judge by a model, on a sheet of so many numbers
  judge : Meaning → ℕ → Answer → Dealing
  -- which never refuses
  close : Dealing

-- what a dealing makes of a graph; a denied entry's step changes nothing
abbrev pub after : State → Dealing → State
after s (entry e d) = record { content = step s.content e; closed = s.closed }
after s (judge m n a) = s
after s close = as_closed s.content

-- a dealing that the graph has, rightly answered: after close only a judge, by any model that keeps the rules
abbrev pub Right : State → Dealing → Type 0
Right s (entry e d) = T (not s.closed) × (d ≡ denial s.content e)
Right s (judge m n a) = Rules m × RightAnswer m s n a
Right s close = T (not s.closed)

-- what the dealings, the last of them first, make of a graph
abbrev pub state : State → List Dealing → State
state start [] = start
state start (d ∷ ds) = after (state start ds) d

-- each dealing is right in its turn
abbrev pub Run : State → List Dealing → Type 0
Run start [] = Unit {0}
Run start (d ∷ ds) = Run start ds × Right (state start ds) d

-- a graph as it is opened, with 1 to 16 threads and 1 to 16 locations
pub record Opening (start : State) : Type 0 where
  pub threads : ℕ
  pub locations : ℕ
  pub some_thread : 1 ≤ threads
  pub few_threads : threads ≤ 16
  pub some_location : 1 ≤ locations
  pub few_locations : locations ≤ 16
  pub opened : start ≡ as_open (opening threads locations)
