-- What makes a graph too wide to search, asked of its open writes.
use Rattle.std.specs.Prelude.{ℕ, Bool, false, not, ◌&&◌, length, Some, None, Option, nat_lt}
use Rattle.execution.specs.Content.{Content, initial}
use Rattle.verdict.specs.Numbers.{count}
use Rattle.verdict.specs.Denials.{writes_to}

-- w writes to the location l, and is not its initial write
abbrev pub recorded_write : Content → ℕ → ℕ → Bool
recorded_write g l w = not (initial g w) && writes_to g l w

-- how many writes a location has besides its initial one
abbrev pub recorded_writes : Content → ℕ → ℕ
recorded_writes g l = count (length g.events) (recorded_write g l)

-- a location that has over 16 of them
abbrev pub crowded : Content → Option ℕ → Bool
crowded g None = false
crowded g (Some l) = nat_lt 16 (recorded_writes g l)
