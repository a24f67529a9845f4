-- Ways by a number of events: the shortest, one step more, and the layers of events from which they start.
use Rattle.std.proofs.Common.{◌≡◌, ℕ, ◌+◌, ◌<◌, Bool, true, ◌&&◌, ◌||◌, T, eqb, List, [], ◌∷◌, length, Decides, sym, refl, subst, inl, inr, arith}
use Rattle.std.proofs.lemmas.Bool.{cases_eq}
use Rattle.std.proofs.lemmas.Bool.Decides.{nat_tests}
use Rattle.cycles.specs.Steps.{Then}
use Rattle.cycles.specs.Cycles.{Leads, Way}
use Rattle.cycles.proofs.Tests.{passed, is_true}

module _ (r : ℕ → ℕ → Bool) where
  pub way_none : (x z : ℕ) → Decides (r x z) (Way r 0 x z)
  way_none x z = (λ h. ([], refl, passed (r x z) h), λ w. is_true (r x z) (go w.0 w.1 w.2))
    where
      go : (xs : List ℕ) → length xs ≡ 0 → Leads r x xs z → T (r x z)
      go [] e h = h
      go (y ∷ ys) e h = absurd (omega arith)

  pub way_more : (k x m z : ℕ) → T (r x m) → Way r k m z → Way r (k + 1) x z
  way_more k x m z h w = let e = w.1 in (m ∷ w.0, omega arith, (h, w.2))

  pub way_step : (k x z : ℕ) → Way r (k + 1) x z → (m : ℕ) × T (r x m) × Way r k m z
  way_step k x z w = go w.0 w.1 w.2
    where
      go : (xs : List ℕ) → length xs ≡ k + 1 → Leads r x xs z → (m : ℕ) × T (r x m) × Way r k m z
      go [] e h = absurd (omega arith)
      go (y ∷ ys) e h = (y, h.0, (ys, omega arith, h.1))

  -- a step before each way
  pub ways_more : (k : ℕ) (s t : ℕ → ℕ → Bool) → ((x y : ℕ) → Decides (s x y) (Way r k x y)) → ((x y : ℕ) → Decides (t x y) (Then r s x y))
      → (x y : ℕ) → Decides (t x y) (Way r (k + 1) x y)
  ways_more k s t ways composed x y = (
    λ h. let w = (composed x y).0 h in let m = w.0 in way_more k x m y w.1 ((ways m y).0 (is_true (s m y) w.2)),
    λ w. let p = way_step k x y w in let m = p.0 in (composed x y).1 (m, p.1, passed (s m y) ((ways m y).1 p.2)),
  )

  -- s has the events from which a way by k events leads to z
  abbrev pub Layer : ℕ → ℕ → (ℕ → Bool) → Type 0
  Layer k z s = (x : ℕ) → Decides (s x) (Way r k x z)

  pub layer_more : (back : ℕ → ℕ → Bool) → ((x y : ℕ) → back x y ≡ r y x) → (k z : ℕ) (s t : ℕ → Bool) → Layer k z s
      → ((x : ℕ) → Decides (t x) ((m : ℕ) × T (s m) × T (back m x))) → Layer (k + 1) z t
  layer_more back turned k z s t layer image x = (
    λ h.
        let w = (image x).0 h in
        let m = w.0 in
        way_more k x m z (subst T (turned m x) w.2) ((layer m).0 (is_true (s m) w.1)),
    λ w.
        let p = way_step k x z w in
        let m = p.0 in
        (image x).1 (m, passed (s m) ((layer m).1 p.2), subst T (sym (turned m x)) p.1),
  )

  -- the table t has the layers below k as its rows
  abbrev pub Layers : ℕ → ℕ → (ℕ → ℕ → Bool) → Type 0
  Layers k z t = (j x : ℕ) → Decides (t j x) ((j < k) × Way r j x z)

  pub layers_more : (k z : ℕ) (s : ℕ → Bool) (t u : ℕ → ℕ → Bool) → Layer k z s → Layers k z t
      → ((j x : ℕ) → u j x ≡ (t j x || (eqb j k && s x))) → Layers (k + 1) z u
  layers_more k z s t u layer layers added j x = (
    λ h. elim (cases_eq j k) [
      | inl e ↦ (omega arith, subst (λ i. Way r i x z) (sym e) ((layer x).0 (own e h)))
      | inr n ↦ let w = (layers j x).0 (older n h) in let l = w.0 in (omega arith, w.1)
    ],
    λ w. elim (cases_eq j k) [
      | inl e ↦ let here = (layer x).1 (subst (λ i. Way r i x z) e w.1) in let at = added j x in grind (arith, nat_tests)
      | inr n ↦ let l = w.0 in let there = (layers j x).1 (omega arith, w.1) in let at = added j x in grind (arith, nat_tests)
    ],
  )
    where
      none : j ≡ k → t j x ≡ true → ⊥
      none e h = let l = ((layers j x).0 h).0 in omega arith

      own : j ≡ k → u j x ≡ true → s x ≡ true
      own e h = let at = added j x in let old = none e in grind (arith, nat_tests)

      older : (j ≡ k → ⊥) → u j x ≡ true → t j x ≡ true
      older n h = let at = added j x in grind (arith, nat_tests)
