use Rattle.std.proofs.Common.{◌≡◌, length, take, drop, map}
use Rattle.event.specs.declared.denial.Denial.TheVariants.{Number}
use Rattle.recording.specs.Layout.{number_denial, numbered, value}
use Rattle.recording.specs.Rules.{positions, first_of}
use Rattle.recording.proofs.line.Line.numbers.Given as goal

abbrev pub invariant-loop-i : goal.invariant-loop-i
invariant-loop-i l = record {
  five : length l.numbers ≡ 5;
  fields_passed : number_denial l.self.kind l.self.rest.now ≡ first_of (drop l.i positions) (numbered l.self.kind l.self.rest.now) Number;
  numbers_read : take l.i l.numbers ≡ map (value l.self.kind l.self.rest.now) (take l.i positions);
}
