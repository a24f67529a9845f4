-- The two parts of program order.
use Rattle.std.specs.Prelude.{ℕ, Bool, not, ◌&&◌, length, ◌==◌, nat_lt}
use Rattle.execution.specs.Content.{Content, thread_of, initial}

-- each thread's events by number
abbrev pub thread_order : Content → ℕ → ℕ → Bool
thread_order g a b = nat_lt b (length g.events) && (thread_of g a == thread_of g b && nat_lt a b)

-- the initial writes before all others
abbrev pub initial_order : Content → ℕ → ℕ → Bool
initial_order g a b = nat_lt b (length g.events) && (initial g a && not (initial g b))
