-- A graph as open or closed.
use Rattle.std.specs.Prelude.{Bool, true, false}
use Rattle.execution.specs.Content.{Content}

-- what has been entered, and whether that was all
pub record State : Type 0 where
  pub content : Content
  pub closed : Bool

-- the graph as one that takes entries
abbrev pub as_open : Content → State
as_open g = record { content = g; closed = false }

-- the graph as one that takes none any more
abbrev pub as_closed : Content → State
as_closed g = record { content = g; closed = true }
