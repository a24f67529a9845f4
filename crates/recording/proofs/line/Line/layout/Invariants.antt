use Rattle.std.proofs.Common.{◌≡◌, drop}
use Rattle.event.specs.declared.denial.Denial.TheVariants.{Blank}
use Rattle.recording.specs.Layout.{blank_denial, laid_out}
use Rattle.recording.specs.Rules.{positions, first_of}
use Rattle.recording.proofs.line.Line.layout.Given as goal

abbrev pub invariant-loop-position : goal.invariant-loop-position
invariant-loop-position l = blank_denial l.self.kind l.self.rest.now ≡ first_of (drop l.position-index positions) (laid_out l.self.kind l.self.rest.now) Blank
