-- What is shown, part behind part.
use Rattle.std.specs.Prelude.{◌≡◌, ℕ, ◌+◌, ◌<◌, Bool, List, [], ◌++◌, length, Some, slice_index_or, Result, MatchResult}
use Rattle.event.specs.Labels.{agree, location}
use Rattle.execution.specs.Content.{Content, label_of}
use Rattle.cycles.specs.Listings.{Listing}
use Rattle.model.specs.Meaning.{Meaning}
use Rattle.sequence.specs.declared.sequence.Full.{Full}

-- xs now stands behind what was shown, or there is no room for it among 1280 events
abbrev pub Added : List ℕ → List ℕ → Result (Unit {0}) Full → List ℕ → Type 0
Added xs before result after = MatchResult result (λ _. after ≡ before ++ xs) (λ _. 1280 < length before + length xs)

-- w accesses the location l
abbrev pub at_location : Content → ℕ → ℕ → Bool
at_location g l w = agree (location (label_of g w)) (Some l)

-- for each of the first n orders a list of all events of h
pub record Listed (m : Meaning) (h : Content) (n : ℕ) (lists : List (List ℕ)) : Type 0 where
  pub as_many : length lists ≡ n
  pub listed : (k : ℕ) → k < n → Listing (m.pairs h k) (length h.events) (slice_index_or lists k [])
