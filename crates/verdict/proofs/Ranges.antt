-- What `find_map` finds over a range, said of the numbers in it.
use Rattle.std.proofs.Common.{◌≡◌, ℕ, ◌+◌, ◌-◌, ◌<◌, ◌≤◌, true, Some, None, Option, IfSome, IsSomeAnd, MatchOption, sym, ap, ◌∙◌, subst, arith}
use denote.Param.Members.{Mut}
use Rattle.std.specs.Fn.{Called}
use Rattle.std.specs.declared.ops.Range.{Range}
use Rattle.std.specs.Iterator.Runs.{Run, SomeRun, CallKeepsClosure, AllItemsGive, IsFirstToGive}
use Rattle.std.proofs.iter.Yields.{nat_range_steps}
use Rattle.std.proofs.iter.runs.Sources.{range_runs}
use Rattle.std.proofs.lemmas.Iterator.Adapters.{option_map_id}

module _ (s : Range ℕ) (p : Run nat_range_steps) (here : p.from ≡ s) where
  counted : (p.len ≤ s.end - s.start) × (p.whole ≡ true → p.len ≡ s.end - s.start)
  counted = subst (λ (r : Range ℕ). (p.len ≤ r.end - r.start) × (p.whole ≡ true → p.len ≡ r.end - r.start)) here ((range_runs p p.seen).0, (range_runs p p.seen).1)

  item : (i : ℕ) → i < p.len → p.at i ≡ Some (s.start + i)
  item i l = sym (option_map_id (p.at i)) ∙ (range_runs p p.seen).3 i l ∙ ap (λ (r : Range ℕ). Some (r.start + i)) here

  number : (k : ℕ) → s.start ≤ k → k - s.start < p.len → p.at (k - s.start) ≡ Some k
  number k l m = item (k - s.start) m ∙ ap Some (omega arith)

pub first_given : {F B : Type 0} {g : Mut F (ℕ × Unit {0}) (Option B)} (s : Range ℕ) (f : F) (r : Option B) (No : ℕ → Type 0) (Yes : ℕ → B → Type 0)
    → CallKeepsClosure g f
    → SomeRun nat_range_steps s (λ p. MatchOption r ((p.whole ≡ true) × AllItemsGive p g f None) (λ y. (i : ℕ) × (i < p.len) × (p.len ≡ i + 1) × IsFirstToGive p g f (Some y) None i))
    → ((x : ℕ) → Called g f (x, tt) None f → No x) → ((x : ℕ) (y : B) → Called g f (x, tt) (Some y) f → Yes x y)
    → MatchOption r ((k : ℕ) → s.start ≤ k → k < s.end → No k) (λ y. (i : ℕ) × (s.start ≤ i) × (i < s.end) × Yes i y × ((k : ℕ) → s.start ≤ k → k < i → No k))
first_given {F} {B} {g} s f None No Yes keeps (p, here, (whole, given)) no' yes' =
    λ k l m. no' k (subst (λ o. IfSome o (λ x. Called g f (x, tt) None f)) (number s p here k l (omega (arith, (counted s p here).1 whole))) (given keeps (k - s.start)))
first_given {F} {B} {g} s f (Some y) No Yes keeps (p, here, (i, inside, last, given)) no' yes' = (
  s.start + i,
  omega arith,
  omega (arith, (counted s p here).0),
  yes' (s.start + i) y (subst (λ o. IsSomeAnd o (λ x. Called g f (x, tt) (Some y) f)) (item s p here i inside) (given keeps).0),
  λ k l m. no' k (subst (λ o. IsSomeAnd o (λ x. Called g f (x, tt) None f)) (number s p here k l (omega arith)) ((given keeps).1 (k - s.start) (omega arith))),
)
