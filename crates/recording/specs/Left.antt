-- What a reader has left.
use Rattle.std.specs.Prelude.{ℕ, suc, List, drop}
use Rattle.recording.specs.declared.reader.Reader.{Reader}
use Rattle.recording.specs.Lines.{lines}
use Rattle.recording.specs.Meaning.{Stage, Outcome, run}

-- the bytes from its place on
abbrev pub left : Reader → List ℕ
left r = drop r.place r.bytes.now

-- what the lines that are left make of a stage
abbrev pub ahead : Reader → Stage → Outcome
ahead r s = run (suc r.line) s (lines (left r))
