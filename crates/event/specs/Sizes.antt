-- How many threads and locations a graph may have.
use Rattle.std.specs.Prelude.{ℕ, Bool, ◌&&◌, None, Option, nat_le}
use Rattle.event.specs.declared.denial.Denial.{Denial}
use Rattle.event.specs.declared.denial.Denial.TheVariants.{Range}
use Rattle.event.specs.Denials.{unless}

abbrev pub one_to_sixteen : ℕ → Bool
one_to_sixteen n = nat_le 1 n && nat_le n 16

-- why a size is denied: the first number out of range
abbrev pub size_denial : ℕ → ℕ → Option Denial
size_denial threads locations =
    unless (one_to_sixteen threads) (Range 1) (
    unless (one_to_sixteen locations) (Range 2)
    None)
