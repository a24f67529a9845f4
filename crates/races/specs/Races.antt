-- Data races, and the first of them.
use Rattle.std.specs.Prelude.{◌≡◌, ℕ, ◌<◌, Bool, not, ◌&&◌, ◌||◌, T, Some, None, Option, ◌==◌, nat_lt}
use Rattle.event.specs.declared.event.Label.{Label}
use Rattle.event.specs.Labels.{is_write, one_location, mode_of, mode_number}
use Rattle.execution.specs.Content.{Content, label_of}
use Rattle.races.specs.declared.race.Race.{Race}

-- both access one location, and one of them is a write
abbrev pub conflict : Label → Label → Bool
conflict a b = one_location a b && (is_write a || is_write b)

-- its mode is 0
abbrev pub non_atomic : Label → Bool
non_atomic a = mode_number (mode_of a) == 0

-- they conflict, and one of them has mode 0
abbrev pub may_race : Label → Label → Bool
may_race a b = conflict a b && (non_atomic a || non_atomic b)

-- they are different, and happens-before holds neither way
abbrev pub concurrent : (ℕ → ℕ → Bool) → ℕ → ℕ → Bool
concurrent hb a b = not (a == b) && (not (hb a b) && not (hb b a))

-- two different events that access one location, one a write, one of mode 0, and happens-before holds neither way
abbrev pub races : Content → (ℕ → ℕ → Bool) → ℕ → ℕ → Bool
races g hb a b = may_race (label_of g a) (label_of g b) && concurrent hb a b

-- the pair of c and d comes before that of a and b: by the lower event, then by the higher
abbrev pub comes_before : ℕ → ℕ → ℕ → ℕ → Bool
comes_before c d a b = nat_lt c a || (c == a && nat_lt d b)

-- the first racing pair, its lower event first; none where no two events race
abbrev pub FirstRace : Content → (ℕ → ℕ → Bool) → Option Race → Type 0
FirstRace g hb None = (a b : ℕ) → T (races g hb a b) → ⊥
FirstRace g hb (Some r) =
    (r.first < r.second)
    × T (races g hb r.first r.second)
    × ((c d : ℕ) → c < d → T (races g hb c d) → T (comes_before c d r.first r.second) → ⊥)

-- no other answer is right
abbrev pub OneFirstRace : Type 0
OneFirstRace = (g : Content) (hb : ℕ → ℕ → Bool) (q r : Option Race) → FirstRace g hb q → FirstRace g hb r → q ≡ r
