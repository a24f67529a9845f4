-- Taking away events that lead to none of the rest.
use Rattle.std.proofs.Common.{◌≡◌, ℕ, zero, suc, ◌-◌, ◌<◌, Bool, not, ◌&&◌, T, eqb, List, [], ◌∷◌, length, sym, refl, ap, subst, inl, inr, arith}
use Rattle.std.proofs.lemmas.Bool.{cases_eq}
use Rattle.std.proofs.lemmas.Bool.Decides.{nat_tests}
use Rattle.event_set.specs.Sets.{has, HasJust}
use Rattle.cycles.specs.Steps.{Plus, last, step, Goes}
use Rattle.cycles.specs.Cycles.{Leads, Cyclic}
use Rattle.event_set.specs.declared.event_set.EventSet.{EventSet}
use Rattle.cycles.proofs.Walks.{Inside, leads_inside, plus_more}
use Rattle.cycles.proofs.Repeats.{count, count_less, repeat_of_long, repeat_round}
use Rattle.event_set.proofs.Words.{has_inside}

-- what returns to itself is in the set
abbrev pub Keeps : (ℕ → ℕ → Bool) → EventSet → Type 0
Keeps r s = (x : ℕ) → Plus r x x → T (has s x)

-- how many events the set has
unfoldable pub size : EventSet → ℕ
size s = count 256 (has s)

pub size_less : (s t : EventSet) → ((x : ℕ) → T (has t x) → T (has s x)) → (a : ℕ) → T (has s a) → (T (has t a) → ⊥) → size t < size s
unfolding size
size_less s t fewer a there gone = count_less 256 (has t) (has s) (λ x l. fewer x) a (has_inside s a there) there gone

-- t is s without a, which leads to none of s
module _ (r : ℕ → ℕ → Bool) (s t : EventSet) (a : ℕ) (rest : HasJust t (λ x. not (eqb x a) && has s x)) (none : (x : ℕ) → T (r a x) → T (has s x) → ⊥) where
  pub taken_keeps : Keeps r s → Keeps r t
  taken_keeps keeps x p = elim (cases_eq x a) [
    | inl e ↦ absurd (at_once (subst (λ y. Plus r y y) e p) refl)
    | inr n ↦ let at = rest x in let was = keeps x p in grind (arith, nat_tests)
  ]
    where
      at_once : {z : ℕ} → Plus r a z → z ≡ a → ⊥
      at_once (last h) e = let own = subst (λ y. T (r a y)) e h in none a own (keeps a (last own))
      at_once (step {m = m} h q) e = none m h (keeps m (plus_more r (subst (λ y. Plus r m y) e q) h))

-- too many steps on end go round
pub goes_none : (r : ℕ → ℕ → Bool) (k a : ℕ) → k ≡ 0 → Goes r k a
unfolding Goes
goes_none r k a e = subst (λ j. Goes r j a) (sym e) tt

pub goes_more : (r : ℕ → ℕ → Bool) (k a m : ℕ) → 0 < k → T (r a m) → Goes r (k - 1) m → Goes r k a
unfolding Goes
goes_more r zero a m l h w = absurd (omega arith)
goes_more r (suc k) a m l h w = (m, h, subst (λ j. Goes r j m) (let e : suc k - 1 ≡ k = omega arith in e) w)

goes_leads : (r : ℕ → ℕ → Bool) (k a : ℕ) → Goes r (suc k) a → (xs : List ℕ) × (z : ℕ) × (length xs ≡ k) × Leads r a xs z
unfolding Goes
goes_leads r zero a w = ([], w.0, refl, w.1)
goes_leads r (suc k) a w =
    let m = w.0 in
    let p = goes_leads r k m w.2 in
    (m ∷ p.0, p.1, ap suc p.2, (w.1, p.3))

pub goes_round : (r : ℕ → ℕ → Bool) (n : ℕ) → Inside n r → (a : ℕ) → Goes r (suc n) a → Cyclic r
goes_round r n inside a w =
    let p = goes_leads r n a w in
    let long = p.2 in
    let q = repeat_of_long n (a ∷ p.0) (leads_inside r n inside a p.0 p.1 p.3) (omega arith) in
    (q.event ∷ q.between, repeat_round r a p.0 p.1 p.3 q)
