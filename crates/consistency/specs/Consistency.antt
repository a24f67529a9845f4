-- A verdict in the textbook's terms.
use Rattle.std.specs.Prelude.{◌≡◌, T, ◌↔◌}
use Rattle.execution.specs.Content.{Content, mo}
use Rattle.boards.specs.declared.board.Board.{Board}
use Rattle.boards.specs.Boards.{ConsistentUnder}
use Rattle.verdict.specs.declared.verdict.Verdict.{Verdict}
use Rattle.verdict.specs.declared.verdict.Verdict.TheVariants.{Allowed}
use Rattle.verdict.specs.Completions.{Completion}

-- some modification order that extends the placements makes the graph consistent
abbrev pub SomeOrderIsConsistent : Board → Content → Type 0
SomeOrderIsConsistent b g = (h : Content) × Completion g h × ConsistentUnder b h (λ w v. T (mo h w v))

-- the verdict is allowed exactly then
abbrev pub AllowedExactlyWhenConsistent : Board → Content → Verdict → Type 0
AllowedExactlyWhenConsistent b g v = (v ≡ Allowed) ↔ SomeOrderIsConsistent b g
