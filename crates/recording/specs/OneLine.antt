-- What one line is answered.
use Rattle.std.specs.Prelude.{◌≡◌, ℕ, Bool, true, false, List, Some, None, Ok, Err, Option, Result}
use Rattle.event.specs.declared.denial.Denial.{Denial}
use Rattle.event.specs.declared.denial.Denial.TheVariants.{Line as Unformed, Number}
use Rattle.execution.specs.Content.{Content}
use Rattle.recording.specs.declared.header.Header.{Header}
use Rattle.recording.specs.declared.layout.LineKind.{LineKind}
use Rattle.recording.specs.declared.line.Line.{Line}
use Rattle.recording.specs.Layout.{kind, rest, numbered, value, numbers}
use Rattle.recording.specs.Headings.{Heading}
use Rattle.recording.specs.Meaning.{Stage, unopened, taking, ended, entry, entry_denial, entered, line_denial, line_step}
use Rattle.recording.specs.Answers.{opened}

-- a line is told apart: its kind and the rest, or Line
abbrev pub Splits : List ℕ → Result Line Denial → Type 0
Splits line (Ok l) = (kind line ≡ Some l.kind) × (l.rest.now ≡ rest line)
Splits line (Err d) = (kind line ≡ None) × (d ≡ Unformed)

-- the number of the field at p, or Number
abbrev pub ReadsAt : LineKind → List ℕ → ℕ → Result ℕ Denial → Type 0
ReadsAt k rest p (Ok n) = (numbered k rest p ≡ true) × (n ≡ value k rest p)
ReadsAt k rest p (Err d) = (numbered k rest p ≡ false) × (d ≡ Number p)

-- the numbers of the fields, unless d denies them
abbrev pub Reads : LineKind → List ℕ → Option Denial → Result (List ℕ) Denial → Type 0
Reads k rest d (Ok f) = (d ≡ None) × (f ≡ numbers k rest)
Reads k rest d (Err e) = d ≡ Some e

-- the stage among the entries or after them
abbrev pub stage : Bool → Heading → Content → Stage
stage false h g = taking h g
stage true h g = ended h g

-- the H line
abbrev pub Heads : ℕ → List ℕ → Result Header Denial → Type 0
Heads n line (Ok h) = (line_denial n unopened line ≡ None) × (line_step unopened line ≡ opened h)
Heads n line (Err d) = line_denial n unopened line ≡ Some d

-- a line after it, and whether the file has ended with that
abbrev pub Enters : ℕ → Bool → List ℕ → Content → Content → Result Bool Denial → Type 0
Enters n e line g g' (Ok e') = (h : Heading) → (line_denial n (stage e h g) line ≡ None) × (line_step (stage e h g) line ≡ stage e' h g')
Enters n e line g g' (Err d) = (g' ≡ g) × ((h : Heading) → line_denial n (stage e h g) line ≡ Some d)

-- what such a line says, once its form is right
abbrev pub Applies : LineKind → List ℕ → Content → Content → Result Bool Denial → Type 0
Applies k f g g' (Ok e) = (entry_denial g (entry k f) ≡ None) × ((h : Heading) → entered h g (entry k f) ≡ stage e h g')
Applies k f g g' (Err d) = (entry_denial g (entry k f) ≡ Some d) × (g' ≡ g)
