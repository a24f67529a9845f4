-- A set of events, as the bits of four words.
use Rattle.std.specs.Prelude.{◌≡◌, ℕ, ◌/◌, ◌%◌, ◌^◌, ◌<◌, Bool, false, not, ◌&&◌, T, sum, Option, MatchOption, ◌==◌, nat_lt, slice_index}
use Rattle.event_set.specs.declared.event_set.EventSet.{EventSet}

-- whether the digit of 2 ^ k in w is 1
unfoldable pub bit : ℕ → ℕ → Bool
bit w k = w / 2 ^ k % 2 == 1

-- whether the set has the event x; it has none past 255
unfoldable pub has : EventSet → ℕ → Bool
has s x = nat_lt x 256 && bit (slice_index s.words (x / 64)) (x % 64)

-- the set has just the events of f
abbrev pub HasJust : EventSet → (ℕ → Bool) → Type 0
HasJust s f = (x : ℕ) → has s x ≡ f x

-- the walk gives the lowest event of s and leaves t, which is s without that event; or s is empty and stays so
abbrev pub Gives : EventSet → Option ℕ → EventSet → Type 0
Gives s r t =
    MatchOption r (HasJust s (λ _. false) × (t ≡ s))
    (λ a. T (has s a) × ((x : ℕ) → x < a → has s x ≡ false) × HasJust t (λ x. not (x == a) && has s x))

-- x is paired with an event of the set
abbrev pub LeadsOn : (ℕ → ℕ → Bool) → EventSet → ℕ → Type 0
LeadsOn r s x = (y : ℕ) × T (r x y) × T (has s y)

-- a number that falls with each event that is given
unfoldable pub weight : EventSet → ℕ
weight s = sum s.words
