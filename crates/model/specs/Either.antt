-- One of two tests.
use Rattle.std.specs.Prelude.{Bool, true, false, ◌||◌, T}

pub or_left : (x y : Bool) → T x → T (x || y)
or_left true y p = tt
or_left false y p = elim p [ ]

pub or_right : (x y : Bool) → T y → T (x || y)
or_right true y p = tt
or_right false y p = p
