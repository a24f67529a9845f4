-- What every graph keeps, and when one graph is within another.
use Rattle.std.specs.Prelude.{◌≡◌, ℕ, ◌<◌, ◌≤◌, T, length, Some, ◌≢◌, slice_index_or}
use Rattle.event.specs.Labels.{no_event, initial_write, agree, is_read, is_write, location, value_read, value_written, kind_of, mode_of, mode_number, allows}
use Rattle.execution.specs.Lists.{holds, precedes, distinct}
use Rattle.execution.specs.Content.{Content, thread_of, label_of, same_location, rf, mo}

-- a source is a write of its read's location and value
pub record Linked (g : Content) (w r : ℕ) : Type 0 where
  pub reads : T (is_read (label_of g r))
  pub writes : T (is_write (label_of g w))
  pub there : T (same_location g w r)
  pub value : T (agree (value_written (label_of g w)) (value_read (label_of g r)))
  deriving IsProp as linked_prop

-- a recorded event has one of the threads, one of the locations and a mode that its label allows
pub record Recorded (g : Content) (a : ℕ) : Type 0 where
  pub some_thread : 1 ≤ thread_of g a
  pub its_thread : thread_of g a ≤ g.threads
  pub its_location : (l : ℕ) → location (label_of g a) ≡ Some l → l < g.locations
  pub its_mode : T (allows (kind_of (label_of g a)) (mode_number (mode_of (label_of g a))))
  deriving IsProp as recorded_prop

-- what every graph keeps
pub record Sound (g : Content) : Type 0 where
  pub some_thread : 1 ≤ g.threads
  pub few_threads : g.threads ≤ 16
  pub some_location : 1 ≤ g.locations
  pub few_locations : g.locations ≤ 16
  pub few_events : length g.events ≤ 256
  pub opened : g.locations ≤ length g.events
  pub aligned : length g.sources ≡ length g.events
  pub initial_writes : (l : ℕ) → l < g.locations → slice_index_or g.events l no_event ≡ initial_write l
  pub recorded : (a : ℕ) → g.locations ≤ a → a < length g.events → Recorded g a
  pub linked : (w r : ℕ) → T (rf g w r) → Linked g w r
  pub placed_writes : (w : ℕ) → T (holds g.placed w) → T (is_write (label_of g w))
  pub placed_once : T (distinct g.placed)
  pub initial_placed : (l : ℕ) → l < g.locations → T (holds g.placed l)
  pub initial_first : (l w : ℕ) → l < g.locations → T (holds g.placed w) → T (same_location g l w) → (l ≢ w) → T (precedes g.placed l w)
  deriving IsProp as sound_prop

-- every event, link and pair of the modification order of g is in h, under the same numbers
pub record Within (g h : Content) : Type 0 where
  pub threads : g.threads ≡ h.threads
  pub locations : g.locations ≡ h.locations
  pub count : length g.events ≤ length h.events
  pub events : (a : ℕ) → a < length g.events → slice_index_or g.events a no_event ≡ slice_index_or h.events a no_event
  pub links : (w r : ℕ) → T (rf g w r) → T (rf h w r)
  pub order : (a b : ℕ) → T (mo g a b) → T (mo h a b)
