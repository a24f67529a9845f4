use Rattle.std.proofs.Common.{◌≡◌, length}
use Rattle.graph.specs.View.{of_open}
use Rattle.recording.specs.Headings.{Heading}
use Rattle.recording.specs.Lines.{lines}
use Rattle.recording.specs.Left.{ahead, left}
use Rattle.recording.specs.Meaning.{taking}
use Rattle.recording.specs.OneLine.{stage}
use Rattle.recording.proofs.Reading.{Taken}
use Rattle.recording.proofs.reader.Reader.fill.Given as goal

abbrev pub invariant-loop-line : goal.invariant-loop-line
invariant-loop-line l = ((h : Heading) → ahead l.initial.self (taking h (of_open l.initial.graph)) ≡ ahead l.self (stage l.ended h (of_open l.graph))) × Taken l.initial.self l.self

abbrev pub decreases-loop-line : goal.decreases-loop-line
decreases-loop-line l = length (lines (left l.self))
