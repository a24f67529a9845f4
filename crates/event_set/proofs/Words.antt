-- A set by its words: what lies past event 255, what a write of one word does, and how it is walked.
use Rattle.std.proofs.Common.{◌≡◌, ℕ, ◌+◌, ◌-◌, ◌*◌, ◌/◌, ◌%◌, ◌<◌, ◌≤◌, Bool, true, false, cond, not, ◌&&◌, T, eqb, ltb, List, length, get_or, set, replicate, sym, refl, ap, ◌∙◌, inl, inr, arith}
use Rattle.std.proofs.lemmas.List.{get_or-set_same, get_or-set_other, get_or-replicate}
use Rattle.std.proofs.lemmas.List.Sums.{sum_by-set}
use Rattle.std.proofs.lemmas.Bool.{cases_eq, cases_lt, eq-eqb, ne_eqb, lt-ltb, le-ltb}
use Rattle.std.proofs.lemmas.Bool.Decides.{nat_tests}
use Rattle.event_set.specs.Sets.{bit, has, weight}
use Rattle.event_set.specs.declared.event_set.EventSet.{EventSet}
use Rattle.event_set.proofs.Digits.{bit_zero, bit_not, Taken}

-- the set of the words ws
abbrev pub events : List ℕ → EventSet
events ws = record { words = ws }

pub has_outside : (s : EventSet) (x : ℕ) → 256 ≤ x → has s x ≡ false
unfolding has
has_outside s x h = grind (arith, nat_tests)

pub has_inside : (s : EventSet) (x : ℕ) → T (has s x) → x < 256
unfolding has
has_inside s x h = grind (arith, nat_tests)

pub none_under : (l p : Bool) → p ≡ false → (l && p) ≡ false
none_under l p h = grind arith

-- the word of an event
pub has_at : (ws : List ℕ) (i x : ℕ) → x / 64 ≡ i → has (events ws) x ≡ (ltb x 256 && bit (get_or ws i 0) (x % 64))
unfolding has
has_at ws i x e = ap (λ n. ltb x 256 && bit (get_or ws n 0) (x % 64)) e

-- where every word is 0
pub has_none : (x : ℕ) → has (events (replicate 4 0)) x ≡ false
unfolding has
has_none x = elim (cases_lt x 256) [
  | inl l ↦ ap (λ w. ltb x 256 && bit w (x % 64)) (get_or-replicate {A = ℕ} 4 (x / 64) 0 0 (omega arith)) ∙ none_under (ltb x 256) (bit 0 (x % 64)) (bit_zero (x % 64))
  | inr l ↦ ap (λ t. t && bit (get_or (replicate 4 0) (x / 64) 0) (x % 64)) (le-ltb x 256 l)
]

-- where every word is 2 ^ 64 - 1
pub has_all : (x : ℕ) → has (events (replicate 4 18446744073709551615)) x ≡ ltb x 256
unfolding has
has_all x = elim (cases_lt x 256) [
  | inl l ↦
      ap (λ w. ltb x 256 && bit w (x % 64)) (get_or-replicate {A = ℕ} 4 (x / 64) 18446744073709551615 0 (omega arith))
      ∙ ap (λ t. ltb x 256 && t) (bit_not 64 0 (x % 64) (omega arith) (omega arith) ∙ ap not (bit_zero (x % 64)))
      ∙ both_same (ltb x 256)
  | inr l ↦ has_outside (events (replicate 4 18446744073709551615)) x l ∙ sym (le-ltb x 256 l)
]
  where
    both_same : (p : Bool) → (p && true) ≡ p
    both_same p = grind arith

-- where just the digits of the events below n are 1
pub has_below : (ws : List ℕ) (n : ℕ) → ((i k : ℕ) → i < 4 → k < 64 → bit (get_or ws i 0) k ≡ ltb k (n - 64 * i))
    → (x : ℕ) → has (events ws) x ≡ (ltb x 256 && ltb x n)
unfolding has
has_below ws n digit x = elim (cases_lt x 256) [
  | inl l ↦ ap (λ t. ltb x 256 && t) (digit (x / 64) (x % 64) (omega arith) (omega arith) ∙ same)
  | inr h ↦ has_outside (events ws) x h ∙ sym (ap (λ t. t && ltb x n) (le-ltb x 256 h))
]
  where
    same : ltb (x % 64) (n - 64 * (x / 64)) ≡ ltb x n
    same = elim (cases_lt x n) [
      | inl l ↦ lt-ltb (x % 64) (n - 64 * (x / 64)) (omega arith) ∙ sym (lt-ltb x n l)
      | inr h ↦ le-ltb (x % 64) (n - 64 * (x / 64)) (omega arith) ∙ sym (le-ltb x n h)
    ]

-- a write of the word i
pub word_set : (ws : List ℕ) (i v j k : ℕ) → i < length ws → bit (get_or (set ws i v) j 0) k ≡ cond (eqb j i) (bit v k) (bit (get_or ws j 0) k)
word_set ws i v j k fits = elim (cases_eq j i) [
  | inl e ↦
      ap (λ w. bit w k) (ap (λ n. get_or (set ws i v) n 0) e ∙ get_or-set_same ws i v 0 fits)
      ∙ sym (ap (λ t. cond t (bit v k) (bit (get_or ws j 0) k)) (eq-eqb j i e))
  | inr n ↦
      ap (λ w. bit w k) (get_or-set_other ws i j v 0 n)
      ∙ sym (ap (λ t. cond t (bit v k) (bit (get_or ws j 0) k)) (ne_eqb j i n))
]

pub either_under : (l e p q r : Bool) → p ≡ cond e q r → (l && p) ≡ cond e (l && q) (l && r)
either_under l e p q r h = grind arith

pub has_set : (ws : List ℕ) (i v x : ℕ) → i < length ws
    → has (events (set ws i v)) x ≡ cond (eqb (x / 64) i) (ltb x 256 && bit v (x % 64)) (has (events ws) x)
unfolding has
has_set ws i v x fits = either_under (ltb x 256) _ _ _ _ (word_set ws i v (x / 64) (x % 64) fits)

-- the walk at the first word i that is not 0, whose lowest digit is t
pub has_no_word : (ws : List ℕ) (i x : ℕ) → x / 64 < i → ((k : ℕ) → k < i → get_or ws k 0 ≡ 0) → has (events ws) x ≡ false
has_no_word ws i x h z =
    has_at ws (x / 64) x refl ∙ ap (λ n. ltb x 256 && bit n (x % 64)) (z (x / 64) h)
    ∙ none_under (ltb x 256) (bit 0 (x % 64)) (bit_zero (x % 64))

pub no_word : (ws : List ℕ) → ((k : ℕ) → k < 4 → get_or ws k 0 ≡ 0) → (x : ℕ) → has (events ws) x ≡ false
no_word ws z x = elim (cases_lt x 256) [
  | inl l ↦ has_no_word ws 4 x (omega arith) z
  | inr h ↦ has_outside (events ws) x h
]

module _ (ws : List ℕ) (i t v : ℕ) (fits : i < length ws) (few : i < 4) (low : t < 64) (r : Taken (get_or ws i 0) t v) where
  pub has_taken : has (events ws) (64 * i + t) ≡ true
  has_taken =
      let here = has_at ws i (64 * i + t) (omega arith) in
      let digit = ap (λ n. bit (get_or ws i 0) n) (let e : (64 * i + t) % 64 ≡ t = omega arith in e) in
      let found = r.is_set in
      grind (arith, nat_tests)

  pub has_before : ((k : ℕ) → k < i → get_or ws k 0 ≡ 0) → (x : ℕ) → x < 64 * i + t → has (events ws) x ≡ false
  has_before z x h = elim (cases_eq (x / 64) i) [
    | inl e ↦
        let here = has_at ws i x e in
        let none = r.before (x % 64) (omega arith) in
        grind (arith, nat_tests)
    | inr n ↦ has_no_word ws i x (omega arith) z
  ]

  pub has_rest : (x : ℕ) → has (events (set ws i v)) x ≡ (not (eqb x (64 * i + t)) && has (events ws) x)
  has_rest x =
      let after = has_set ws i v x fits in
      let here = has_at ws i x in
      let cleared = r.cleared (x % 64) in
      grind (arith, nat_tests)

pub weight_less : (ws : List ℕ) (i v : ℕ) → i < length ws → v < get_or ws i 0 → weight (events (set ws i v)) < weight (events ws)
unfolding weight
weight_less ws i v h l = let e = sum_by-set (λ (x : ℕ). x) ws i v 0 h in omega arith

-- words made each of the words of two sets, digit by digit
pub has_joined : (f : Bool → Bool → Bool) (ws os vs : List ℕ) → f false false ≡ false
    → ((i k : ℕ) → i < 4 → k < 64 → bit (get_or vs i 0) k ≡ f (bit (get_or ws i 0) k) (bit (get_or os i 0) k))
    → (x : ℕ) → has (events vs) x ≡ f (has (events ws) x) (has (events os) x)
unfolding has
has_joined f ws os vs none digit x = elim (cases_lt x 256) [
  | inl l ↦ rw (lt-ltb x 256 l) (digit (x / 64) (x % 64) (omega arith) (omega arith))
  | inr h ↦ rw (le-ltb x 256 h) (sym none)
]
