-- What an event does: labels, what each carries, and the modes that each may have.
use Rattle.std.specs.Prelude.{ℕ, Bool, true, false, cond, ◌&&◌, ◌||◌, List, is_some, Some, None, Ok, Err, Option, Result, ◌==◌, nat_le, slice_index}
use Rattle.event.specs.declared.denial.Denial.{Denial}
use Rattle.event.specs.declared.denial.Denial.TheVariants.{Mode as no_such_mode}
use Rattle.event.specs.declared.event.Mode.{Mode}
use Rattle.event.specs.declared.event.Mode.TheVariants.{NonAtomic, Relaxed, Acquire, Release, AcquireRelease, SeqCst}
use Rattle.event.specs.declared.event.Kind.{Kind}
use Rattle.event.specs.declared.event.Kind.TheVariants.{Read as a_read, Write as a_write, Update as an_update, Fence as a_fence}
use Rattle.event.specs.declared.event.Label.{Label}
use Rattle.event.specs.declared.event.Label.TheVariants.{Read, Write, Update, Fence}
use Rattle.event.specs.declared.event.Event.{Event}
use Rattle.event.specs.declared.event.Arguments.{Arguments}

-- the number of a mode
abbrev pub mode_number : Mode → ℕ
mode_number NonAtomic = 0
mode_number Relaxed = 1
mode_number Acquire = 2
mode_number Release = 3
mode_number AcquireRelease = 4
mode_number SeqCst = 5

-- the mode of a number; past the last there is none, and an entry with such a number is denied
abbrev pub numbered_mode : ℕ → Mode
numbered_mode n =
    cond (n == 0) NonAtomic (cond (n == 1) Relaxed (cond (n == 2) Acquire (
    cond (n == 3) Release (cond (n == 4) AcquireRelease SeqCst))))

-- the mode of a number from 0 to 5
abbrev pub mode_from : ℕ → Result Mode Denial
mode_from n = cond (nat_le n 5) (Ok (numbered_mode n)) (Err no_such_mode)

-- the mode numbers that a kind of event may have
abbrev pub allows : Kind → ℕ → Bool
allows a_read n = nat_le n 2 || n == 5
allows a_write n = nat_le n 1 || (n == 3 || n == 5)
allows an_update n = nat_le 1 n && nat_le n 5
allows a_fence n = nat_le 2 n && nat_le n 5

-- the mode of a number that a kind of event may have
abbrev pub allowed_mode : Kind → ℕ → Result Mode Denial
allowed_mode k n = cond (allows k n) (Ok (numbered_mode n)) (Err no_such_mode)

-- the numbers of an entry: thread, location, value read, value written and mode
abbrev pub arguments_from : List ℕ → Arguments
arguments_from ns = record { thread = slice_index ns 0; location = slice_index ns 1; read = slice_index ns 2; written = slice_index ns 3; mode = slice_index ns 4 }

-- whether events of a kind access a location
abbrev pub accesses : Kind → Bool
accesses a_read = true
accesses a_write = true
accesses an_update = true
accesses a_fence = false

-- the label that a kind of event takes from its arguments
abbrev pub labelled : Kind → Arguments → Label
labelled a_read x = Read x.location x.read (numbered_mode x.mode)
labelled a_write x = Write x.location x.written (numbered_mode x.mode)
labelled an_update x = Update x.location x.read x.written (numbered_mode x.mode)
labelled a_fence x = Fence (numbered_mode x.mode)

abbrev pub kind_of : Label → Kind
kind_of (Read l v m) = a_read
kind_of (Write l v m) = a_write
kind_of (Update l b a m) = an_update
kind_of (Fence m) = a_fence

-- the location of an access
abbrev pub location : Label → Option ℕ
location (Read l v m) = Some l
location (Write l v m) = Some l
location (Update l b a m) = Some l
location (Fence m) = None

-- the value that a read or an update reads
abbrev pub value_read : Label → Option ℕ
value_read (Read l v m) = Some v
value_read (Write l v m) = None
value_read (Update l b a m) = Some b
value_read (Fence m) = None

-- the value that a write or an update writes
abbrev pub value_written : Label → Option ℕ
value_written (Read l v m) = None
value_written (Write l v m) = Some v
value_written (Update l b a m) = Some a
value_written (Fence m) = None

abbrev pub mode_of : Label → Mode
mode_of (Read l v m) = m
mode_of (Write l v m) = m
mode_of (Update l b a m) = m
mode_of (Fence m) = m

-- reads and updates read
abbrev pub is_read : Label → Bool
is_read l = is_some (value_read l)

-- writes and updates write
abbrev pub is_write : Label → Bool
is_write l = is_some (value_written l)

-- both are there, and equal
abbrev pub agree : Option ℕ → Option ℕ → Bool
agree (Some x) (Some y) = x == y
agree (Some x) None = false
agree None (Some y) = false
agree None None = false

-- both access one location
abbrev pub one_location : Label → Label → Bool
one_location a b = agree (location a) (location b)

-- the write of 0 that every location begins with
abbrev pub initial_write : ℕ → Event
initial_write l = record { thread = 0; label = Write l 0 NonAtomic }

-- what stands past the last event
abbrev pub no_event : Event
no_event = record { thread = 0; label = Fence NonAtomic }
