-- The two parts of program order.
use Rattle.std.proofs.Common.{◌≡◌, ℕ, ◌<◌, ◌≤◌, Bool, not, ◌&&◌, ◌||◌, T, ltb, length, arith, ltb→lt}
use Rattle.std.proofs.lemmas.Bool.Decides.{nat_tests}
use Rattle.execution.specs.Content.{Content, initial}
use Rattle.execution.proofs.Tests.{left, right}
use Rattle.model.specs.Orders.{initial_order}

-- the row of an initial write
pub initial_row : (n m a y : ℕ) (all first others : Bool) → n ≤ 256 → a < m
    → all ≡ (ltb y 256 && ltb y n) → first ≡ (ltb y 256 && ltb y m) → others ≡ (all && not first)
    → others ≡ (ltb y n && (ltb a m && not (ltb y m)))
initial_row n m a y all first others few its i j k = grind (arith, nat_tests)

pub initial_first : (g : Content) (a b : ℕ) → T (initial_order g a b) → a < g.locations
initial_first g a b h = ltb→lt a g.locations (left (initial g a) _ (right (ltb b (length g.events)) _ h))

pub both_parts : (n s f entry threads all : Bool) → threads ≡ ((n && s) || entry) → all ≡ ((n && f) || threads) → all ≡ ((n && (s || f)) || entry)
both_parts n s f entry threads all i j = grind arith
