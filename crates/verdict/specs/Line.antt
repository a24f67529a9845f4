-- The line that tells a verdict.
use Rattle.std.specs.Prelude.{ℕ, List, ◌++◌, codes}
use Rattle.std.specs.Fmt.{decimal}
use Rattle.verdict.specs.declared.verdict.Verdict.{Verdict}
use Rattle.verdict.specs.declared.verdict.Verdict.TheVariants.{Allowed, Cycle, NoPlacement}

-- the words that tell each verdict
abbrev pub line : Verdict → List ℕ
line Allowed = codes "allowed"
line (Cycle order length) = codes "forbidden: order " ++ (decimal order ++ (codes " has a cycle of " ++ (decimal length ++ codes " events")))
line NoPlacement = codes "forbidden at every placement"
