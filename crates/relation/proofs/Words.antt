-- A table by its words: what lies past event 255, what a write of one word does, and its rows as sets.
use Rattle.std.proofs.Common.{◌≡◌, ℕ, ◌+◌, ◌*◌, ◌/◌, ◌%◌, ◌<◌, ◌≤◌, false, cond, ◌&&◌, T, eqb, ltb, ◌⊎◌, List, length, get_or, set, replicate, sym, refl, ap, ◌∙◌, inl, inr, arith}
use Rattle.std.proofs.lemmas.List.{get_or-replicate}
use Rattle.std.proofs.lemmas.Bool.{cases_lt, lt-ltb}
use Rattle.std.proofs.lemmas.Bool.Decides.{nat_tests}
use Rattle.event_set.specs.Sets.{bit, has}
use Rattle.event_set.proofs.Digits.{bit_zero}
use Rattle.event_set.proofs.Words.{events, has_at, has_outside, none_under, either_under, word_set}
use Rattle.relation.specs.Table.{holds}
use Rattle.relation.specs.declared.table.Relation.{Relation}

-- the table of the words ws
abbrev pub table : List ℕ → Relation
table ws = record { words = ws }

pub holds_outside : (t : Relation) (a b : ℕ) → (256 ≤ a) ⊎ (256 ≤ b) → holds t a b ≡ false
unfolding holds
holds_outside t a b h = grind (arith, nat_tests)

pub holds_inside : (t : Relation) (a b : ℕ) → T (holds t a b) → (a < 256) × (b < 256)
unfolding holds
holds_inside t a b h = grind (arith, nat_tests)

pub holds_at : (ws : List ℕ) (i a b : ℕ) → 4 * a + b / 64 ≡ i → holds (table ws) a b ≡ (ltb a 256 && (ltb b 256 && bit (get_or ws i 0) (b % 64)))
unfolding holds
holds_at ws i a b e = ap (λ n. ltb a 256 && (ltb b 256 && bit (get_or ws n 0) (b % 64))) e

pub holds_none : (a b : ℕ) → holds (table (replicate 1024 0)) a b ≡ false
holds_none a b = elim (cases_lt a 256) [
  | inr l ↦ holds_outside (table (replicate 1024 0)) a b (inl l)
  | inl l ↦ elim (cases_lt b 256) [
    | inr k ↦ holds_outside (table (replicate 1024 0)) a b (inr k)
    | inl k ↦
        let word = get_or-replicate {A = ℕ} 1024 (4 * a + b / 64) 0 0 (omega arith) in
        holds_at (replicate 1024 0) (4 * a + b / 64) a b refl
        ∙ ap (λ w. ltb a 256 && (ltb b 256 && bit w (b % 64))) word
        ∙ none_under (ltb a 256) (ltb b 256 && bit 0 (b % 64)) (none_under (ltb b 256) (bit 0 (b % 64)) (bit_zero (b % 64)))
  ]
]

pub holds_set : (ws : List ℕ) (i v a b : ℕ) → i < length ws
    → holds (table (set ws i v)) a b ≡ cond (eqb (4 * a + b / 64) i) (ltb a 256 && (ltb b 256 && bit v (b % 64))) (holds (table ws) a b)
unfolding holds
holds_set ws i v a b fits =
    either_under (ltb a 256) _ _ _ _ (either_under (ltb b 256) _ _ _ _ (word_set ws i v (4 * a + b / 64) (b % 64) fits))

-- the set of the four words of a row
pub has_row : (ws os : List ℕ) (a x : ℕ) → a < 256 → ((q : ℕ) → q < 4 → get_or os q 0 ≡ get_or ws (4 * a + q) 0) → has (events os) x ≡ holds (table ws) a x
has_row ws os a x l row = elim (cases_lt x 256) [
  | inr h ↦ has_outside _ x h ∙ sym (holds_outside (table ws) a x (inr h))
  | inl h ↦
      has_at os (x / 64) x refl
      ∙ ap (λ n. ltb x 256 && bit n (x % 64)) (row (x / 64) (omega arith))
      ∙ sym (holds_at ws (4 * a + x / 64) a x refl ∙ ap (λ t. t && (ltb x 256 && bit (get_or ws (4 * a + x / 64) 0) (x % 64))) (lt-ltb a 256 l))
]
