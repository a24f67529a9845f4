-- A pile keeps the rules that the model under it keeps, and adds nothing where it has no layer.
use Rattle.std.specs.Prelude.{◌≡◌, ℕ, Bool, true, false, ◌&&◌, ◌||◌, T, nat_lt}
use Rattle.std.proofs.Common.{sym, refl, subst, arith}
use Rattle.execution.specs.Content.{Content}
use Rattle.cycles.proofs.Walks.{larger_keeps_cycles}
use Rattle.model.specs.Meaning.{Meaning, Rules, Serves}
use Rattle.model.specs.Layers.{fenced, within_threads, barrier}
use Rattle.model.specs.Layered.{layer_rules, fenced_grows, within_threads_grows, none_within_no_thread}
use Rattle.boards.specs.Agreement.{Follows}
use Rattle.piles.specs.Piles.{piled, below_strong, Alike}

pub piled_rules : (threads : ℕ) (barred : Bool) (m : Meaning) → Rules m → Rules (piled threads barred m)
piled_rules threads true m rules = layer_rules (within_threads threads) (barrier m) (within_threads_grows threads) (layer_rules fenced m fenced_grows rules)
piled_rules threads false m rules = layer_rules (within_threads threads) m (within_threads_grows threads) rules

no_more : (held few here : Bool) → here ≡ false → (held || (few && here)) ≡ held
no_more held few here e = grind arith

-- the strong layer of no thread adds no pair
pub of_no_thread : (threads : ℕ) (barred : Bool) (m : Meaning) → threads ≡ 0 → Alike (piled threads barred m) (below_strong barred m)
of_no_thread threads barred m none = let n = below_strong barred m in subst (λ (t : ℕ). Alike (piled t barred m) n) (sym none) (record {
  as_many = refl;
  same = λ g k a b. no_more (n.pairs g k a b) (nat_lt k n.orders) _ (none_within_no_thread g a b);
})

alike_serves : (m n : Meaning) → Alike m n → (g : Content) → Serves m g → Serves n g
alike_serves m n alike g serves k l xs round =
    serves k (omega (arith, alike.as_many)) xs (larger_keeps_cycles (n.pairs g k) (m.pairs g k) (λ a b h. subst T (sym (alike.same g k a b)) h) xs round)

-- a pile of no layer follows the textbook where the model under it does
pub of_no_layer : (threads : ℕ) (barred : Bool) (m : Meaning) (consistent : Content → (ℕ → ℕ → Type 0) → Type 0)
    → threads ≡ 0 → barred ≡ false → Follows m consistent → Follows (piled threads barred m) consistent
of_no_layer threads true m consistent none bare = absurd cc
of_no_layer threads false m consistent none bare = λ follows g sound full.
    let pile = piled threads false m in
    let alike = of_no_thread threads false m none in
    let back : Alike m pile = record { as_many = refl; same = λ h k a b. sym (alike.same h k a b) } in
    let its = follows g sound full in
    (λ serves. its.0 (alike_serves pile m alike g serves), λ agrees. alike_serves m pile back g (its.1 agrees))
