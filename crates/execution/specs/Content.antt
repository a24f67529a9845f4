-- An execution graph, as what its entries have made of it, and its four relations.
use Rattle.std.specs.Prelude.{ℕ, ◌<◌, ◌≤◌, Bool, false, not, ◌&&◌, ◌||◌, T, List, map, length, get_or, replicate, Some, None, Option, ◌==◌, nat_lt, slice_index_or}
use Rattle.event.specs.declared.event.Label.{Label}
use Rattle.event.specs.declared.event.Event.{Event}
use Rattle.event.specs.Labels.{is_write, agree, one_location, initial_write, no_event}
use Rattle.execution.specs.Lists.{holds, precedes, upto}

pub record Content : Type 0 where
  pub threads : ℕ
  pub locations : ℕ
  -- the initial writes, one for each location in order, and then what was recorded
  pub events : List Event
  -- for each event the write that it is linked to
  pub sources : List (Option ℕ)
  -- every placed write; a location's modification order is the part of it that writes there
  pub placed : List ℕ

-- a graph as it is opened: the initial writes, all placed, and no link
abbrev pub opening : ℕ → ℕ → Content
opening threads locations = record { threads = threads; locations = locations; events = map initial_write (upto locations); sources = replicate locations None; placed = upto locations }

abbrev pub thread_of : Content → ℕ → ℕ
thread_of g a = (get_or g.events a no_event).thread

abbrev pub label_of : Content → ℕ → Label
label_of g a = (get_or g.events a no_event).label

abbrev pub source_of : Content → ℕ → Option ℕ
source_of g r = slice_index_or g.sources r None

-- both access one location
abbrev pub same_location : Content → ℕ → ℕ → Bool
same_location g a b = one_location (label_of g a) (label_of g b)

-- a recorded write that is not placed
abbrev pub is_open : Content → ℕ → Bool
is_open g w = is_write (label_of g w) && not (holds g.placed w)

-- w is the lowest open write from a number on, if any is
abbrev pub NextOpen : Content → ℕ → Option ℕ → Type 0
NextOpen g from None = (a : ℕ) → from ≤ a → T (is_open g a) → ⊥
NextOpen g from (Some w) = (from ≤ w) × T (is_open g w) × ((a : ℕ) → from ≤ a → a < w → T (is_open g a) → ⊥)

abbrev pub initial : Content → ℕ → Bool
initial g a = nat_lt a g.locations

-- program order: one thread's events by number, and the initial writes before all others
abbrev pub po : Content → ℕ → ℕ → Bool
po g a b = nat_lt b (length g.events) && ((thread_of g a == thread_of g b && nat_lt a b) || (initial g a && not (initial g b)))

-- reads-from: a source and its read
abbrev pub rf : Content → ℕ → ℕ → Bool
rf g w r = agree (source_of g r) (Some w)

-- modification order: placed at one location, the one anywhere before the other
abbrev pub mo : Content → ℕ → ℕ → Bool
mo g a b = same_location g a b && precedes g.placed a b

abbrev pub overwrites : Content → Option ℕ → ℕ → Bool
overwrites g None c = false
overwrites g (Some w) c = mo g w c

-- reads-before: a read and every other write that overwrites its source
abbrev pub rb : Content → ℕ → ℕ → Bool
rb g r c = not (r == c) && overwrites g (source_of g r) c
