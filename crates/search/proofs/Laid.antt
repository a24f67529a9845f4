-- What is found of an order's table holds of the order.
use Rattle.std.proofs.Common.{◌≡◌, ℕ, ◌≤◌, ◌<◌, Bool, true, false, not, MatchBool, MatchOption, Some, None, Option, subst, arith}
use Rattle.execution.specs.Content.{Content}
use Rattle.relation.specs.declared.table.Relation.{Relation}
use Rattle.relation.specs.Table.{holds, Is}
use Rattle.relation.proofs.Same.{is_same}
use Rattle.cycles.specs.Cycles.{Cyclic, Acyclic}
use Rattle.model.specs.Meaning.{Meaning}
use Rattle.search.specs.Orders.{LowestCyclic}

pub cyclic_by_table : (t : Relation) (r : ℕ → ℕ → Bool) → Is t r → (b : Bool) → MatchBool b (Acyclic (holds t)) (Cyclic (holds t)) → MatchBool (not b) (Cyclic r) (Acyclic r)
cyclic_by_table t r laid true none = subst (λ (q : ℕ → ℕ → Bool). Acyclic q) (is_same t r laid) none
cyclic_by_table t r laid false some = subst (λ (q : ℕ → ℕ → Bool). Cyclic q) (is_same t r laid) some

pub lowest_by_turns : (m : Meaning) (g : Content) (n : ℕ) → n ≡ m.orders → (o : Option ℕ)
    → MatchOption o ((k : ℕ) → 0 ≤ k → k < n → Acyclic (m.pairs g k)) (λ i. (0 ≤ i) × (i < n) × Cyclic (m.pairs g i) × ((k : ℕ) → 0 ≤ k → k < i → Acyclic (m.pairs g k)))
    → LowestCyclic m g o
lowest_by_turns m g n e None none = λ k l. none k (omega arith) (omega arith)
lowest_by_turns m g n e (Some i) (_, below, cycle, lower) = (omega arith, cycle, λ j l. lower j (omega arith) l)
