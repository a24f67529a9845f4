-- A first cycle that is found by computing.
use Rattle.std.proofs.Common.{ℕ, zero, suc, Bool, false, not, ◌&&◌, T, List, [], ◌∷◌, length, subst, inl, inr}
use Rattle.std.proofs.lemmas.Bool.{cases_lt}
use Rattle.execution.proofs.Tests.{both, left, right, yes_no}
use Rattle.cycles.specs.Cycles.{Leads, FirstCycle, Way}
use Rattle.cycles.proofs.Walks.{Inside, leads_inside}
use Rattle.cycles.proofs.Firsts.{FirstWay, first_way_none, first_way_more, NoneShorter, is_first_cycle}
use Rattle.known.proofs.Numbers.{every, some, every_at, some_from}

module _ (r : ℕ → ℕ → Bool) (n : ℕ) where
  -- from a to z by k events
  abbrev pub way : ℕ → ℕ → ℕ → Bool
  way zero a z = r a z
  way (suc k) a z = some n (λ c. r a c && way k c z)

  -- no return to a by k events
  abbrev pub no_return : ℕ → ℕ → Bool
  no_return k a = not (way k a a)

  -- no way from a to z by y and then k events
  abbrev pub no_way_by : ℕ → ℕ → ℕ → ℕ → Bool
  no_way_by a z k y = not (r a y && way k y z)

  -- no return by fewer than k events
  abbrev pub none_shorter : ℕ → Bool
  none_shorter k = every k (λ j. every n (no_return j))

  -- the way by these events, and none by as many comes before it
  abbrev pub first_way : ℕ → List ℕ → ℕ → Bool
  first_way a [] z = r a z
  first_way a (x ∷ xs) z = r a x && (every x (no_way_by a z (length xs)) && first_way x xs z)

  abbrev pub first_cycle : List ℕ → Bool
  first_cycle [] = false
  first_cycle (a ∷ xs) = none_shorter (length xs) && (every a (no_return (length xs)) && first_way a xs a)

  module _ (inside : Inside n r) where
    leads_way : (a : ℕ) (xs : List ℕ) (z : ℕ) → Leads r a xs z → T (way (length xs) a z)
    leads_way a [] z h = h
    leads_way a (x ∷ xs) z h = some_from n (λ c. r a c && way (length xs) c z) x (inside a x h.0).1 (both (r a x) _ h.0 (leads_way x xs z h.1))

    found_way : (k a z : ℕ) → Way r k a z → T (way k a z)
    found_way k a z w = subst (λ j. T (way j a z)) w.1 (leads_way a w.0 z w.2)

    is_none_shorter : (k : ℕ) → T (none_shorter k) → NoneShorter r k
    is_none_shorter k h a ys leads = elim (cases_lt (length ys) k) [
      | inr l ↦ l
      | inl l ↦
          let none = every_at n (no_return (length ys)) (every_at k (λ j. every n (no_return j)) h (length ys) l) in
          absurd (yes_no (way (length ys) a a) (none a (leads_inside r n inside a ys a leads).0) (leads_way a ys a leads))
    ]

    is_first_way : (a : ℕ) (xs : List ℕ) (z : ℕ) → T (first_way a xs z) → FirstWay r a xs z
    is_first_way a [] z h = first_way_none r a z h
    is_first_way a (x ∷ xs) z h =
        let rest = right (r a x) _ h in
        let none = every_at x (no_way_by a z (length xs)) (left (every x (no_way_by a z (length xs))) _ rest) in
        first_way_more r a x xs z (left (r a x) _ h)
        (λ y l k w. yes_no (r a y && way (length xs) y z) (none y l) (both (r a y) _ k (found_way (length xs) y z w)))
        (is_first_way x xs z (right (every x (no_way_by a z (length xs))) _ rest))

    pub decided_cycle : (xs : List ℕ) → T (first_cycle xs) → FirstCycle r xs
    decided_cycle [] h = elim h [ ]
    decided_cycle (a ∷ xs) h =
        let rest = right (none_shorter (length xs)) _ h in
        let none = every_at a (no_return (length xs)) (left (every a (no_return (length xs))) _ rest) in
        is_first_cycle r a xs (is_none_shorter (length xs) (left (none_shorter (length xs)) _ h))
        (λ b l w. yes_no (way (length xs) b b) (none b l) (found_way (length xs) b b w))
        (is_first_way a xs a (right (every a (no_return (length xs))) _ rest))
