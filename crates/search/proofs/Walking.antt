-- The placed writes walked in order, each tried as the one that the lowest open write comes after.
use Rattle.std.proofs.Common.{◌≡◌, ℕ, ◌+◌, ◌<◌, ◌≤◌, Bool, false, T, length, get_or, is_some, Some, None, MatchBool, Option, sym, subst, inl, inr, arith, below_more}
use Rattle.std.proofs.lemmas.Bool.{cases_lt}
use Rattle.graph.specs.declared.tables.Graph.{Graph}
use Rattle.execution.specs.Lists.{precedes}
use Rattle.execution.specs.Content.{Content, is_open, NextOpen}
use Rattle.execution.specs.Sound.{Sound}
use Rattle.execution.specs.Entries.{denial, entered, place}
use Rattle.graph.specs.View.{view}
use Rattle.execution.proofs.Denied.{places}
use Rattle.execution.proofs.Placing.{place_sound}
use Rattle.model.specs.Meaning.{Meaning, Rules, Serves}
use Rattle.verdict.specs.Fillings.{Fillable, FilledFirst}
use Rattle.verdict.proofs.Filling.{cycle_ends, none_allowed, filled_first_all}
use Rattle.search.specs.Found.{Finds, FindsFrom}
use Rattle.search.proofs.First.{Failed, nowhere, first_place}
use Rattle.search.proofs.Indexes.{index_of, index_before}

pub none_tells : (b : Bool) (P : Type 0) → b ≡ false → (P → ⊥) → MatchBool b P (P → ⊥)
none_tells b P e none = subst (λ x. MatchBool x P (P → ⊥)) (sym e) none

module _ (g : Content) (sg : Sound g) (n w : ℕ) (next : NextOpen g n (Some w)) where
  pub lowest : (u : ℕ) → n ≤ u → T (is_open g u) → w ≤ u
  lowest u l o = elim (cases_lt u w) [ inl k ↦ absurd (next.2 u l k o) | inr k ↦ k ]

  module _ (m : Meaning) where
    -- no filling serves with w after one of the first i
    abbrev pub Tried : ℕ → Type 0
    Tried i = (k : ℕ) → k < i → Failed m n g w (get_or g.placed k 0)

    pub none_left : (i : ℕ) → length g.placed ≤ i → Tried i → Fillable m n g → ⊥
    none_left i all tried = nowhere g sg n w next.0 next.1 lowest m (λ v fit.
        let at = index_of g.placed v (places g w v fit).placed in
        subst (λ u. Failed m n g w u) at.2 (tried at.0 (omega (arith, at.1))) fit)

    -- v is the write at index i
    module _ (i v : ℕ) (it : v ≡ get_or g.placed i 0) (tried : Tried i) where
      pub tried_one_more : Failed m n g w v → Tried (i + 1)
      tried_one_more failed = below_more (λ k. Failed m n g w (get_or g.placed k 0)) i tried (subst (λ u. Failed m n g w u) it failed)

      pub found_first : i < length g.placed → denial g (place w v) ≡ None → (f h : Content) → f ≡ entered g (place w v) → FilledFirst m n f h → FilledFirst m n g h
      found_first l fit f h put best = first_place g sg n w next.0 next.1 lowest m v h fit
          (λ u fits before.
          let at = index_before g.placed u i sg.placed_once l (subst (λ x. T (precedes g.placed u x)) it before) in
          subst (λ x. Failed m n g w x) at.2 (tried at.0 at.1) fits)
          (subst (λ x. FilledFirst m n x h) put best)

-- what serves with more placed serves already
serves_already : (m : Meaning) → Rules m → (n : ℕ) (g : Content) → Sound g → Fillable m n g → Serves m g
serves_already m rules n g s some k l xs round = cycle_ends m rules n g s k l xs round some

module _ (m : Meaning) (n : ℕ) (g : Content) (sg : Sound g) (w v : ℕ) where
  pub fails_at_once : Rules m → (denial g (place w v) ≡ None → Serves m (entered g (place w v)) → ⊥) → Failed m n g w v
  fails_at_once rules none fit some = none fit (serves_already m rules n (entered g (place w v)) (place_sound g sg w v fit) some)

  pub fails_further_on : (f : Content) → f ≡ entered g (place w v) → (Fillable m n f → ⊥) → Failed m n g w v
  fails_further_on f put none fit = subst (λ (x : Content). Fillable m n x → ⊥) put none

-- whether a filling is found tells whether there is one
pub found_tells : (m : Meaning) (n : ℕ) (g : Content) (o : Option Graph) → FindsFrom n m g o → (b : Bool) → b ≡ is_some o → MatchBool b (Fillable m n g) (Fillable m n g → ⊥)
found_tells m n g None none b e = none_tells b (Fillable m n g) e none
found_tells m n g (Some h) best b e = subst (λ x. MatchBool x (Fillable m n g) (Fillable m n g → ⊥)) (sym e) (view h, best.fills, best.serves)

-- from 0 on, a filling is a full modification order
pub found_full : (m : Meaning) (g : Content) (o : Option Graph) → FindsFrom 0 m g o → Finds m g o
found_full m g None none = none_allowed m g none
found_full m g (Some h) best = filled_first_all m g (view h) best
