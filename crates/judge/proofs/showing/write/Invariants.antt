use Rattle.std.proofs.Common.{◌≡◌, take}
use Rattle.verdict.specs.Answers.{laid}
use Rattle.judge.proofs.showing.write.Given as goal

abbrev pub invariant-loop-i : goal.invariant-loop-i
invariant-loop-i l = l.sheet ≡ laid (take l.i l.events) l.initial.sheet
