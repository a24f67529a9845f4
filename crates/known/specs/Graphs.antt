-- The graphs of the table. Events are numbered as they come, after one initial write for each location.
use Rattle.std.specs.Prelude.{ℕ, List, [], ◌∷◌}
use Rattle.event.specs.declared.event.Kind.TheVariants.{Read, Write, Update}
use Rattle.execution.specs.Entries.{Entry, record_event, link, place}
use Rattle.known.specs.Making.{Making}

-- the two locations
abbrev pub x : ℕ
x = 0

abbrev pub y : ℕ
y = 1

-- modes by their numbers
abbrev pub relaxed : ℕ
relaxed = 1

abbrev pub acquire : ℕ
acquire = 2

abbrev pub release : ℕ
release = 3

-- a thread reads a value from a location, in a mode
abbrev pub reads_as : ℕ → ℕ → ℕ → ℕ → Entry
reads_as mode thread location value = record_event Read record { thread = thread; location = location; read = value; written = 0; mode = mode }

-- a thread writes a value to a location, in a mode
abbrev pub writes_as : ℕ → ℕ → ℕ → ℕ → Entry
writes_as mode thread location value = record_event Write record { thread = thread; location = location; read = 0; written = value; mode = mode }

-- accesses are relaxed unless said otherwise
abbrev pub reads : ℕ → ℕ → ℕ → Entry
reads = reads_as relaxed

abbrev pub writes : ℕ → ℕ → ℕ → Entry
writes = writes_as relaxed

-- a thread finds one value at a location and leaves another
abbrev pub updates : ℕ → ℕ → ℕ → ℕ → Entry
updates thread location found left = record_event Update record { thread = thread; location = location; read = found; written = left; mode = relaxed }

-- 1. Store buffering: each thread writes one location, and then reads the other as it was.
abbrev pub store_buffering : Making
store_buffering = record {
  threads = 2;
  locations = 2;
  entries =
      writes 1 x 1 ∷ reads 1 y 0
      ∷ writes 2 y 1 ∷ reads 2 x 0
      ∷ link 3 1 ∷ link 5 0 ∷ place 2 0 ∷ place 4 1 ∷ [];
}

-- 2 and 3. Message passing: the message is seen, and what was written before it is not.
abbrev pub message_passing : ℕ → ℕ → Making
message_passing sent received = record {
  threads = 2;
  locations = 2;
  entries =
      writes 1 x 1 ∷ writes_as sent 1 y 1
      ∷ reads_as received 2 y 1 ∷ reads 2 x 0
      ∷ link 4 3 ∷ link 5 0 ∷ place 2 0 ∷ place 3 1 ∷ [];
}

-- 4. Load buffering: each thread reads what the other writes afterwards.
abbrev pub load_buffering : Making
load_buffering = record {
  threads = 2;
  locations = 2;
  entries =
      reads 1 x 1 ∷ writes 1 y 1
      ∷ reads 2 y 1 ∷ writes 2 x 1
      ∷ link 2 5 ∷ link 4 3 ∷ place 3 1 ∷ place 5 0 ∷ [];
}

-- 5. One thread reads the new value, and then the old one.
abbrev pub old_after_new : Making
old_after_new = record {
  threads = 2;
  locations = 1;
  entries =
      writes 1 x 1
      ∷ reads 2 x 1 ∷ reads 2 x 0
      ∷ link 2 1 ∷ link 3 0 ∷ place 1 0 ∷ [];
}

-- 6. Two updates of one value.
abbrev pub two_updates : Making
two_updates = record {
  threads = 2;
  locations = 1;
  entries =
      updates 1 x 0 1
      ∷ updates 2 x 0 1
      ∷ link 1 0 ∷ link 2 0 ∷ [];
}

-- 7. Two writes, neither placed, seen in turn by a third thread, which may look again.
abbrev pub two_writes : List Entry → Making
two_writes again = record {
  threads = 3;
  locations = 1;
  entries =
      writes 1 x 1
      ∷ writes 2 x 2
      ∷ reads 3 x 2 ∷ reads 3 x 1
      ∷ link 3 2 ∷ link 4 1 ∷ again;
}

-- event 5 sees the one that was seen first
abbrev pub seen_again : List Entry
seen_again = reads 3 x 2 ∷ link 5 2 ∷ []

-- 8. Nothing but an initial write.
abbrev pub nothing : Making
nothing = record { threads = 1; locations = 1; entries = [] }
