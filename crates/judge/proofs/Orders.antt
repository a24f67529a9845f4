-- What is asked of an order's table is asked of the order, and what is shown is added part by part.
use Rattle.std.proofs.Common.{◌≡◌, ℕ, ◌+◌, ◌<◌, ◌≤◌, Bool, ltb, min, List, ◌++◌, length, IfSome, MatchOption, Some, None, Option, Ok, Err, Result, sym, subst, arith}
use Rattle.std.specs.Result.{result_ok}
use Rattle.execution.specs.Content.{Content}
use Rattle.execution.proofs.Tests.{right}
use Rattle.relation.specs.declared.table.Relation.{Relation}
use Rattle.relation.specs.Sequences.{events}
use Rattle.relation.specs.Table.{holds, Is}
use Rattle.relation.proofs.Same.{is_same}
use Rattle.cycles.specs.Cycles.{Cycle, Acyclic, Cyclic, FirstCycle}
use Rattle.cycles.specs.Listings.{among, Listing}
use Rattle.cycles.proofs.Walks.{larger_keeps_cycles}
use Rattle.sequence.specs.declared.sequence.Full.{Full}
use Rattle.sequence.specs.declared.sequence.Sequence.{Sequence}
use Rattle.model.specs.Meaning.{Meaning}
use Rattle.judge.specs.Sheets.{Added}
use Rattle.judge.specs.Judges.{FirstFound}

-- a cycle among the first events is one
pub not_among : (r : ℕ → ℕ → Bool) (t : Relation) → Is t r → (n : ℕ) → Cyclic (among n (holds t)) → Acyclic r → ⊥
not_among r t is n some none =
    let whole = larger_keeps_cycles (among n (holds t)) (holds t) (λ a b h. right (ltb b n) _ (right (ltb a n) _ h)) some.0 some.1 in
    none some.0 (subst (λ (q : ℕ → ℕ → Bool). Cycle q some.0) (is_same t r is) whole)

-- a list by the table is one by the order
pub listing_by_table : (r : ℕ → ℕ → Bool) (t : Relation) → Is t r → (n k : ℕ) (xs : List ℕ) → n ≡ k → n ≤ 256 → Listing (holds t) (min n 256) xs → Listing r k xs
listing_by_table r t is n k xs e few l =
    let all : min n 256 ≡ k = omega arith in
    subst (λ (j : ℕ). Listing r j xs) all (subst (λ (q : ℕ → ℕ → Bool). Listing q (min n 256) xs) (is_same t r is) l)

pub none_by : {A : Type 0} {P : Type 0} (Q : A → Type 0) (o : Option A) → o ≡ None → P → MatchOption o P Q
none_by {P = P} Q o e p = subst (λ x. MatchOption x P Q) (sym e) p

-- whether there was room for what was added
module _ (xs before after : List ℕ) (r : Result (Unit {0}) Full) where
  pub added : (u : Unit {0}) → result_ok r ≡ Some u → Added xs before r after → after ≡ before ++ xs
  added u e h = by r e h
    where
      by : (r : Result (Unit {0}) Full) → result_ok r ≡ Some u → Added xs before r after → after ≡ before ++ xs
      by (Ok v) e h = h
      by (Err f) e h = cc

  pub not_added : result_ok r ≡ None → Added xs before r after → 1280 < length before + length xs
  not_added e h = by r e h
    where
      by : (r : Result (Unit {0}) Full) → result_ok r ≡ None → Added xs before r after → 1280 < length before + length xs
      by (Ok v) e h = let z : ◌≡◌ {A = ℕ} 0 1 = cc in absurd (omega arith)
      by (Err f) e h = h

  pub no_room : (f : Full) → r ≡ Err f → 1280 < length before + length xs → Added xs before r after
  no_room f e room = subst (λ (x : Result (Unit {0}) Full). Added xs before x after) (sym e) room

-- the first cycle of an order's table is the order's
pub cycle_by_table : (r : ℕ → ℕ → Bool) (t : Relation) → Is t r → (o : Option (Sequence ℕ 256)) → MatchOption o (Acyclic (holds t)) (λ _. Cyclic (holds t)) → IfSome o (λ s. FirstCycle (holds t) (events s))
    → MatchOption o (Acyclic r) (λ s. FirstCycle r (events s))
cycle_by_table r t is None none first = subst (λ (q : ℕ → ℕ → Bool). Acyclic q) (is_same t r is) none
cycle_by_table r t is (Some s) some first = subst (λ (q : ℕ → ℕ → Bool). FirstCycle q (events s)) (is_same t r is) first

-- what is found order by order
pub first_found : (m : Meaning) (g : Content) (n : ℕ) → n ≡ m.orders → (o : Option (ℕ × Sequence ℕ 256))
    → MatchOption o ((k : ℕ) → 0 ≤ k → k < n → Acyclic (m.pairs g k)) (λ f. (i : ℕ) × (0 ≤ i) × (i < n) × ((f.0 ≡ i) × FirstCycle (m.pairs g i) (events f.1)) × ((k : ℕ) → 0 ≤ k → k < i → Acyclic (m.pairs g k)))
    → FirstFound m g o
first_found m g n e None none = λ k l. none k (omega arith) (omega arith)
first_found m g n e (Some (k, cycle)) (i, _, below, (same, first), lower) =
    (omega arith, subst (λ (x : ℕ). FirstCycle (m.pairs g x) (events cycle)) (sym same) first, λ j l. lower j (omega arith) (omega arith))
