-- What a file means, line by line.
use Rattle.std.specs.Prelude.{ℕ, suc, Bool, true, false, not, ◌&&◌, List, [], ◌∷◌, Some, None, Option, nat_le, slice_index}
use Rattle.event.specs.declared.denial.Denial.{Denial}
use Rattle.event.specs.declared.denial.Denial.TheVariants.{Line, Frame}
use Rattle.execution.specs.Content.{Content, opening}
use Rattle.execution.specs.Entries.{Entry, record_event, link, place, denial, step}
use Rattle.event.specs.Denials.{unless, or_else}
use Rattle.event.specs.Labels.{arguments_from}
use Rattle.recording.specs.declared.layout.LineKind.{LineKind}
use Rattle.recording.specs.declared.layout.LineKind.TheVariants.{Header, Event, Link, Place, End}
use Rattle.recording.specs.declared.fault.Fault.{Fault}
use Rattle.recording.specs.Lines.{lines}
use Rattle.recording.specs.Layout.{kind, rest, field_denial, numbers}
use Rattle.recording.specs.Faults.{fault}
use Rattle.recording.specs.Headings.{Heading, heading, heading_denial}

-- how far a file is read: before its H line, among its entries, after its Z line
pub data Stage : Type 0 where
  unopened : Stage
  taking : Heading → Content → Stage
  ended : Heading → Content → Stage

-- the entry of a line, if it is one
abbrev pub entry : LineKind → List ℕ → Option Entry
entry Header f = None
entry (Event k) f = Some (record_event k (arguments_from f))
entry Link f = Some (link (slice_index f 0) (slice_index f 1))
entry Place f = Some (place (slice_index f 0) (slice_index f 1))
entry End f = None

abbrev pub is_header : LineKind → Bool
is_header Header = true
is_header (Event k) = false
is_header Link = false
is_header Place = false
is_header End = false

-- whether a line of that kind may come now: H first and only there, nothing after Z
abbrev pub due : Stage → LineKind → Bool
due unopened k = is_header k
due (taking h g) k = not (is_header k)
due (ended h g) k = false

-- whether it may be line n: a file has at most 1,024 lines
abbrev pub in_frame : ℕ → Stage → LineKind → Bool
in_frame n s k = due s k && nat_le n 1024

-- why the graph denies it
abbrev pub entry_denial : Content → Option Entry → Option Denial
entry_denial g None = None
entry_denial g (Some e) = denial g e

-- why the header or the graph denies what a line says
unfoldable pub own_denial : Stage → LineKind → List ℕ → Option Denial
own_denial unopened k f = heading_denial (heading f)
own_denial (taking h g) k f = entry_denial g (entry k f)
own_denial (ended h g) k f = None

-- the rules in their order: Line, Frame, those of the fields, and those of what the line says
abbrev pub kind_denial : Option LineKind → ℕ → Stage → List ℕ → Option Denial
kind_denial None n s line = Some Line
kind_denial (Some k) n s line =
    unless (in_frame n s k) Frame (or_else (field_denial k (rest line)) (own_denial s k (numbers k (rest line))))

-- why line n is denied: the first rule that it breaks
unfoldable pub line_denial : ℕ → Stage → List ℕ → Option Denial
line_denial n s line = kind_denial (kind line) n s line

-- an entry is one step of the graph, and Z ends the file
abbrev pub entered : Heading → Content → Option Entry → Stage
entered h g None = ended h g
entered h g (Some e) = taking h (step g e)

-- H opens a graph, and the lines after it fill it
abbrev pub advanced : Stage → LineKind → List ℕ → Stage
advanced unopened k f = taking (heading f) (opening (slice_index f 0) (slice_index f 1))
advanced (taking h g) k f = entered h g (entry k f)
advanced (ended h g) k f = ended h g

-- a line without a kind changes nothing
abbrev pub kind_step : Option LineKind → Stage → List ℕ → Stage
kind_step None s line = s
kind_step (Some k) s line = advanced s k (numbers k (rest line))

-- what a line that is not denied makes of a stage
unfoldable pub line_step : Stage → List ℕ → Stage
line_step s line = kind_step (kind line) s line

-- the stage that a file comes to, and its first fault, if any
pub record Outcome : Type 0 where
  pub stage : Stage
  pub fault : Option Fault

-- Frame on line n, where Z is missing
abbrev pub unfinished : ℕ → Stage → Option Fault
unfinished n unopened = Some (fault n Frame)
unfinished n (taking h g) = Some (fault n Frame)
unfinished n (ended h g) = None

-- ended by a fault
abbrev pub stopped : Stage → Fault → Outcome
stopped s f = record { stage = s; fault = Some f }

-- a denial on line n ends the reading there
abbrev pub unless_denied : Option Denial → ℕ → Stage → Outcome → Outcome
unless_denied None n s after = after
unless_denied (Some d) n s after = stopped s (fault n d)

-- what the lines from line n on make of a stage
unfoldable pub run : ℕ → Stage → List (List ℕ) → Outcome
run n s [] = record { stage = s; fault = unfinished n s }
run n s (l ∷ ls) = unless_denied (line_denial n s l) n s (run (suc n) (line_step s l) ls)

-- what a file means
unfoldable pub meaning : List ℕ → Outcome
meaning bytes = run 1 unopened (lines bytes)
