-- What the calls answer.
use Rattle.std.specs.Prelude.{◌≡◌, ◌-◌, [], drop, Some, None, Ok, Err, Result}
use Rattle.execution.specs.Content.{Content, opening}
use Rattle.graph.specs.View.{of_closed}
use Rattle.recording.specs.declared.fault.Fault.{Fault}
use Rattle.recording.specs.declared.header.Header.{Header}
use Rattle.recording.specs.declared.reader.Reader.{Reader}
use Rattle.recording.specs.declared.whole.Recording.{Recording}
use Rattle.recording.specs.Lines.{lines}
use Rattle.recording.specs.Headings.{Heading, heading_of}
use Rattle.recording.specs.Meaning.{Stage, unopened, taking, ended, Outcome, stopped}
use Rattle.recording.specs.Left.{left, ahead}

-- a whole file: read to its end without a fault
abbrev pub whole : Heading → Content → Outcome
whole h g = record { stage = ended h g; fault = None }

-- a graph as its header opens it
abbrev pub opened : Header → Stage
opened h = taking (heading_of h) (opening h.size.threads h.size.locations)

-- a stage in which the graph is g
abbrev pub Holds : Stage → Content → Type 0
Holds unopened g = ⊥
Holds (taking h f) g = f ≡ g
Holds (ended h f) g = f ≡ g

-- reading the H line: the rest of the file goes on from its graph, or it was at fault
abbrev pub Opens : Reader → Reader → Result Header Fault → Type 0
Opens before after (Ok h) = ahead before unopened ≡ ahead after (opened h)
Opens before after (Err f) = ahead before unopened ≡ stopped unopened f

-- filling a graph: a whole file's, or at the first fault what the lines before it made
abbrev pub Fills : Outcome → Heading → Content → Result Unit Fault → Type 0
Fills o h g (Ok x) = o ≡ whole h g
Fills o h g (Err f) = (o.fault ≡ Some f) × Holds o.stage g

-- and it takes every line up to the one at fault
abbrev pub Takes : Reader → Reader → Result Unit Fault → Type 0
Takes before after (Ok x) = lines (left after) ≡ []
Takes before after (Err f) = lines (left after) ≡ drop (f.line - before.line) (lines (left before))

-- reading a whole file: its header and its graph, or its first fault
abbrev pub Answers : Outcome → Result Recording Fault → Type 0
Answers o (Ok r) = o ≡ whole (heading_of r.header) (of_closed r.graph)
Answers o (Err f) = o.fault ≡ Some f
