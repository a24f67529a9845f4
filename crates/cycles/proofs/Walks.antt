-- Ways through a relation: joined, parted, and as one or more steps.
use Rattle.std.proofs.Common.{ℕ, ◌<◌, Bool, T, ◌⊎◌, List, [], ◌∷◌, ◌++◌, inl, inr}
use Rattle.std.specs.List.{AllByRecursion}
use Rattle.cycles.specs.Steps.{Plus, last, step, Within}
use Rattle.cycles.specs.Cycles.{Leads, Cycle, Cyclic, Acyclic}
use Rattle.cycles.specs.Laws.{LargerKeepsCycles, CyclesAreReturns}

-- the pairs of r are among the first n events
abbrev pub Inside : ℕ → (ℕ → ℕ → Bool) → Type 0
Inside n r = (a b : ℕ) → T (r a b) → (a < n) × (b < n)

module _ (r : ℕ → ℕ → Bool) where
  pub leads_append : (a : ℕ) (xs : List ℕ) (k : ℕ) (ys : List ℕ) (z : ℕ) → Leads r a xs k → Leads r k ys z → Leads r a (xs ++ (k ∷ ys)) z
  leads_append a [] k ys z h j = (h, j)
  leads_append a (x ∷ xs) k ys z h j = (h.0, leads_append x xs k ys z h.1 j)

  pub leads_split : (a : ℕ) (xs : List ℕ) (k : ℕ) (ys : List ℕ) (z : ℕ) → Leads r a (xs ++ (k ∷ ys)) z → Leads r a xs k × Leads r k ys z
  leads_split a [] k ys z h = h
  leads_split a (x ∷ xs) k ys z h = let p = leads_split x xs k ys z h.1 in ((h.0, p.0), p.1)

  pub leads_inside : (n : ℕ) → Inside n r → (a : ℕ) (xs : List ℕ) (z : ℕ) → Leads r a xs z → AllByRecursion (λ x. x < n) (a ∷ xs)
  leads_inside n i a [] z h = ((i a z h).0, tt)
  leads_inside n i a (x ∷ xs) z h = ((i a x h.0).0, leads_inside n i x xs z h.1)

  pub leads_plus : (a : ℕ) (xs : List ℕ) (z : ℕ) → Leads r a xs z → Plus r a z
  leads_plus a [] z h = last h
  leads_plus a (x ∷ xs) z h = step h.0 (leads_plus x xs z h.1)

  pub plus_inside : (n : ℕ) → Inside n r → {a z : ℕ} → Plus r a z → a < n
  plus_inside n i {a} {z} (last h) = (i a z h).0
  plus_inside n i {a} (step {m = m} h p) = (i a m h).0

  pub plus_leads : {a z : ℕ} → Plus r a z → (xs : List ℕ) × Leads r a xs z
  plus_leads (last h) = ([], h)
  plus_leads (step {m = m} h p) = let w = plus_leads p in (m ∷ w.0, (h, w.1))

  pub cycle_returns : (xs : List ℕ) → Cycle r xs → (a : ℕ) × Plus r a a
  cycle_returns [] h = elim h [ ]
  cycle_returns (a ∷ xs) h = (a, leads_plus a xs a h)

  pub return_cycle : (a : ℕ) → Plus r a a → Cyclic r
  return_cycle a p = let w = plus_leads p in (a ∷ w.0, w.1)

  pub none_returns : ((a : ℕ) → Plus r a a → ⊥) → Acyclic r
  none_returns f xs h = let p = cycle_returns xs h in f p.0 p.1

  pub plus_trans : {a m z : ℕ} → Plus r a m → Plus r m z → Plus r a z
  plus_trans (last h) q = step h q
  plus_trans (step h p) q = step h (plus_trans p q)

  -- one step more at the end, and the last step
  pub plus_more : {a m z : ℕ} → Plus r a m → T (r m z) → Plus r a z
  plus_more (last h) j = step h (last j)
  plus_more (step h p) j = step h (plus_more p j)

  pub plus_last : {a z : ℕ} → Plus r a z → T (r a z) ⊎ ((m : ℕ) × Plus r a m × T (r m z))
  plus_last (last h) = inl h
  plus_last (step {m = m} h p) = elim (plus_last p) [
    | inl j ↦ inr (m, last h, j)
    | inr w ↦ inr (w.0, step h w.1, w.2)
  ]

-- steps of the pairs turned round
pub plus_turned : (r : ℕ → ℕ → Bool) {a z : ℕ} → Plus (λ x y. r y x) a z → Plus r z a
plus_turned r (last h) = last h
plus_turned r (step h p) = plus_more r (plus_turned r p) h

leads_larger : (r s : ℕ → ℕ → Bool) → Within r s → (a : ℕ) (xs : List ℕ) (z : ℕ) → Leads r a xs z → Leads s a xs z
leads_larger r s w a [] z h = w a z h
leads_larger r s w a (x ∷ xs) z h = (w a x h.0, leads_larger r s w x xs z h.1)

pub larger_keeps_cycles : LargerKeepsCycles
larger_keeps_cycles r s w [] h = h
larger_keeps_cycles r s w (a ∷ xs) h = leads_larger r s w a xs a h

pub cycles_are_returns : CyclesAreReturns
cycles_are_returns r = (λ h. cycle_returns r h.0 h.1, return_cycle r)
