-- What an allowed graph is shown with.
use Rattle.std.specs.Prelude.{◌≡◌, ℕ, ◌<◌, T, List, [], map, length, Some, filter, ◌≢◌, slice_index_or}
use Rattle.event.specs.Labels.{is_write, agree, location}
use Rattle.execution.specs.Lists.{precedes, upto}
use Rattle.execution.specs.Content.{Content, label_of, same_location, rf}
use Rattle.cycles.specs.Listings.{Listing}
use Rattle.model.specs.Meaning.{Meaning}
use Rattle.verdict.specs.Places.{PlacedFirst}

-- the modification order of a location
abbrev pub modification_order : Content → ℕ → List ℕ
modification_order h l = filter (λ w. agree (location (label_of h w)) (Some l)) h.placed

-- each location's, location by location
abbrev pub modification_orders : Content → List (List ℕ)
modification_orders h = map (modification_order h) (upto h.locations)

-- of the full modification order h: a list of all events for each order, and each location's modification order
pub record Shown (m : Meaning) (g h : Content) (lists orders : List (List ℕ)) : Type 0 where
  pub placed : PlacedFirst m g h
  pub as_many : length lists ≡ m.orders
  pub listed : (k : ℕ) → k < m.orders → Listing (m.pairs h k) (length h.events) (slice_index_or lists k [])
  pub ordered : orders ≡ modification_orders h

-- in the list each linked read stands after its source, with no other write to its location between them
pub record ReadsLast (g : Content) (xs : List ℕ) : Type 0 where
  pub after : (w r : ℕ) → T (rf g w r) → T (precedes xs w r)
  pub between : (w r c : ℕ) → T (rf g w r) → T (is_write (label_of g c)) → T (same_location g c r) → (c ≢ w)
      → T (precedes xs w c) → T (precedes xs c r) → ⊥
