-- One more number directly behind another, by its index.
use Rattle.std.proofs.Common.{◌≡◌, ℕ, zero, suc, ◌<◌, true, false, List, [], ◌∷◌, length, get_or, is_some, IfOk, Some, None, Option, refl, arith, MatchOption}
use Rattle.std.specs.List.{insert, AllWithin, HoldsAt}
use Rattle.std.specs.Option.{ok_or}
use Rattle.event.specs.declared.denial.Denial.TheVariants.{Loose}
use Rattle.execution.specs.Lists.{holds, insert_after, FirstAt}
use Rattle.event.specs.Denials.{unless, refusal}

-- what stands at an index is held, and what stands at none is not
held_at : (xs : List ℕ) (i a : ℕ) → i < length xs → get_or xs i 0 ≡ a → holds xs a ≡ true
held_at [] i a l e = absurd (omega arith)
held_at (x ∷ xs) zero a l e = grind arith
held_at (x ∷ xs) (suc i) a l e = let ih = held_at xs i a (omega arith) e in grind arith

pub held_nowhere : (xs : List ℕ) (a : ℕ) → ((k : ℕ) → k < length xs → get_or xs k 0 ≡ a → ⊥) → holds xs a ≡ false
held_nowhere [] a h = refl
held_nowhere (x ∷ xs) a h = let ih = held_nowhere xs a (λ k l. h (suc k) (omega arith)) in let here : x ≡ a → ⊥ = h 0 (omega arith) in grind arith

-- a number has a place just when it is held
pub place_tells : (xs : List ℕ) (a : ℕ) (r : Option ℕ) → MatchOption r (holds xs a ≡ false) (λ i. FirstAt xs a i) → holds xs a ≡ is_some r
place_tells xs a None h = h
place_tells xs a (Some i) h = held_at xs i a h.0 h.1

-- what `position` finds is the first place
pub first_place : (xs : List ℕ) (a : ℕ) (r : Option ℕ) → MatchOption r (AllWithin (λ x. x ≡ a → ⊥) xs 0 (length xs)) (λ i. (i < length xs) × HoldsAt (λ x. x ≡ a) xs i × AllWithin (λ x. x ≡ a → ⊥) xs 0 i) → MatchOption r (holds xs a ≡ false) (λ i. FirstAt xs a i)
first_place xs a None h = held_nowhere xs a (λ k l. h k 0 (omega arith) l)
first_place xs a (Some i) h = (h.0, h.1 0, λ k l. h.2 k 0 (omega arith) l)

-- directly behind the first place of v is directly after v
pub behind_is_after : (v w : ℕ) (xs : List ℕ) (i : ℕ) → FirstAt xs v i → insert xs (suc i) w ≡ insert_after v w xs
behind_is_after v w [] i (l, e, n) = absurd (omega arith)
behind_is_after v w (x ∷ xs) zero (l, e, n) = grind arith
behind_is_after v w (x ∷ xs) (suc i) (l, e, n) =
    let ih : insert xs (suc i) w ≡ insert_after v w xs = behind_is_after v w xs i (omega arith, e, λ k h. n (suc k) (omega arith)) in
    let other : x ≡ v → ⊥ = n 0 (omega arith) in
    grind arith

-- the write to follow: Loose if it has no place, else its first place
pub follow_tells : (xs : List ℕ) (v : ℕ) (o : Option ℕ) → MatchOption o (holds xs v ≡ false) (λ i. FirstAt xs v i) → (refusal (ok_or o Loose) ≡ unless (holds xs v) Loose None) × IfOk (ok_or o Loose) (λ i. FirstAt xs v i)
follow_tells xs v None h = (cc, tt)
follow_tells xs v (Some i) h = (cc (held_at xs i v h.0 h.1), h)
