-- What holds of every race, and of the first.
use Rattle.std.proofs.Common.{◌≡◌, ℕ, ◌+◌, ◌<◌, ◌≤◌, Bool, not, ◌&&◌, ◌||◌, T, eqb, ◌⊎◌, length, Some, None, Option, MatchOption, sym, refl, ap, subst, inl, inr, arith}
use Rattle.std.proofs.lemmas.Bool.Decides.{nat_tests}
use Rattle.event.specs.Labels.{is_write, location}
use Rattle.execution.specs.Content.{Content, label_of}
use Rattle.execution.proofs.Tests.{left}
use Rattle.model.proofs.Places.{access_among, agree_turned}
use Rattle.races.specs.Races.{non_atomic, conflict, may_race, races, comes_before, FirstRace, OneFirstRace}
use Rattle.races.specs.Partners.{LowestPartner}
use Rattle.races.specs.declared.race.Race.{Race}

turned : (a b : ℕ) (l m v w p q h k : Bool) → l ≡ m → T (((l && (v || w)) && (p || q)) && (not (eqb a b) && (not h && not k)))
    → T (((m && (w || v)) && (q || p)) && (not (eqb b a) && (not k && not h)))
turned a b l m v w p q h k e r = grind (arith, nat_tests)

apart : (a b : ℕ) (m x : Bool) → T (m && (not (eqb a b) && x)) → (a < b) ⊎ (b < a)
apart a b m x h = grind (arith, nat_tests)

before : (a b c d : ℕ) → T (comes_before c d a b) → (c < a) ⊎ ((c ≡ a) × (d < b))
before a b c d h = grind (arith, nat_tests)

-- no pair comes before the lowest pair of the lowest event that has one
pub none_before : (r : ℕ → ℕ → Bool) (a b : ℕ) → ((c d : ℕ) → c < a → c < d → T (r c d) → ⊥) → ((d : ℕ) → a < d → d < b → T (r a d) → ⊥)
    → (c d : ℕ) → c < d → T (r c d) → T (comes_before c d a b) → ⊥
none_before r a b lower here c d l h k = elim (before a b c d k) [
  | inl m ↦ lower c d m l h
  | inr e ↦ here d (omega arith) e.1 (subst (λ x. T (r x d)) e.0 h)
]

ordered : (a b c d : ℕ) → T (comes_before a b c d) ⊎ (T (comes_before c d a b) ⊎ ((a ≡ c) × (b ≡ d)))
ordered a b c d = grind (arith, nat_tests)

same_race : (r s : Race) → r.first ≡ s.first → r.second ≡ s.second → r ≡ s
same_race r s p q = λ i. record { first = p i; second = q i }

-- there is one first race at most
pub one_first_race : OneFirstRace
one_first_race g hb None None p q = refl
one_first_race g hb None (Some r) p q = absurd (p r.first r.second q.1)
one_first_race g hb (Some r) None p q = absurd (q r.first r.second p.1)
one_first_race g hb (Some r) (Some s) p q = elim (ordered r.first r.second s.first s.second) [
  | inl k ↦ absurd (q.2 r.first r.second p.0 p.1 k)
  | inr (inl k) ↦ absurd (p.2 s.first s.second q.0 q.1 k)
  | inr (inr e) ↦ ap Some (same_race r s e.0 e.1)
]

module _ (g : Content) (hb : ℕ → ℕ → Bool) where
  -- a race is one from either side
  pub race_turned : (a b : ℕ) → T (races g hb a b) → T (races g hb b a)
  race_turned a b = turned a b _ _ (is_write (label_of g a)) (is_write (label_of g b)) (non_atomic (label_of g a)) (non_atomic (label_of g b)) (hb a b) (hb b a)
      (agree_turned (location (label_of g a)) (location (label_of g b)))

  -- it is between events of the graph
  pub first_among : (a b : ℕ) → T (races g hb a b) → a < length g.events
  first_among a b h = access_among g a (location (label_of g b)) (left _ _ (left (conflict (label_of g a) (label_of g b)) _ (left (may_race (label_of g a) (label_of g b)) _ h)))

  pub second_among : (a b : ℕ) → T (races g hb a b) → b < length g.events
  second_among a b h = first_among b a (race_turned a b h)

  -- it is enough to look from the lower event
  pub no_races : ((a b : ℕ) → a < b → T (races g hb a b) → ⊥) → (a b : ℕ) → T (races g hb a b) → ⊥
  no_races none a b h = elim (apart a b _ _ h) [
    | inl l ↦ none a b l h
    | inr l ↦ none b a l (race_turned a b h)
  ]

  -- the first of the higher events that races is the lowest partner
  pub lowest_partner : (a : ℕ) (found : Option ℕ) (n : ℕ) → n ≡ length g.events
      → MatchOption found ((k : ℕ) → a + 1 ≤ k → k < n → T (races g hb a k) → ⊥)
      (λ b. (i : ℕ) × (a + 1 ≤ i) × (i < n) × ((b ≡ i) × T (races g hb a i)) × ((k : ℕ) → a + 1 ≤ k → k < i → T (races g hb a k) → ⊥))
      → LowestPartner g hb a found
  lowest_partner a None n e none = λ d l h. none d (omega arith) (omega (arith, second_among a d h)) h
  lowest_partner a (Some b) n e first = (
    omega (arith, first.3.0),
    subst (λ i. T (races g hb a i)) (sym first.3.0) first.3.1,
    λ d l m. first.4 d (omega arith) (omega (arith, first.3.0)),
  )

  -- the first event with a partner, and its lowest partner, are the first race
  pub first_race : (found : Option Race) (n : ℕ) → n ≡ length g.events
      → MatchOption found ((k : ℕ) → 0 ≤ k → k < n → LowestPartner g hb k None)
      (λ r. (i : ℕ) × (0 ≤ i) × (i < n) × ((r.first ≡ i) × LowestPartner g hb i (Some r.second)) × ((k : ℕ) → 0 ≤ k → k < i → LowestPartner g hb k None))
      → FirstRace g hb found
  first_race None n e none = no_races (λ a b l h. none a (omega arith) (omega (arith, first_among a b h)) b l h)
  first_race (Some r) n e first =
      let partner = subst (λ i. LowestPartner g hb i (Some r.second)) (sym first.3.0) first.3.1 in
      (partner.0, partner.1, none_before (races g hb) r.first r.second (λ k d l. first.4 k (omega arith) (omega (arith, first.3.0)) d) partner.2)
