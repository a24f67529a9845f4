-- Reads-from, link by link.
use Rattle.std.proofs.Common.{◌≡◌, ℕ, ◌+◌, Bool, true, false, ◌&&◌, ◌||◌, T, eqb, ltb, Some, sym, ap, ◌∙◌, subst, arith, eqb→eq}
use Rattle.std.proofs.Math.Dec.{eqb_refl}
use Rattle.std.proofs.lemmas.Bool.Decides.{nat_tests}
use Rattle.event.specs.Labels.{agree}
use Rattle.execution.specs.Content.{Content, source_of, rf}
use Rattle.relation.specs.declared.table.Relation.{Relation}
use Rattle.relation.specs.Table.{holds, Is}

-- a link and its source
pub linked : (g : Content) (w i : ℕ) → source_of g i ≡ Some w → T (rf g w i)
linked g w i e = subst (λ o. T (agree o (Some w))) (sym e) (eqb_refl w)

pub its_source : (g : Content) (w x i : ℕ) → source_of g i ≡ Some w → T (rf g x i) → w ≡ x
its_source g w x i e h = eqb→eq w x (subst (λ o. T (agree o (Some x))) e h)

pub no_true : (b : Bool) → b ≡ false → T b → ⊥
no_true b e h = subst T e h

-- the pair (w, i) alone among those that end at i, and none
alone_there : (w x : ℕ) (here : Bool) → (T here → w ≡ x) → (w ≡ x → here ≡ true) → here ≡ eqb x w
alone_there w x here its so = grind (arith, nat_tests)

ends_at : (x y w i : ℕ) (old new entry here : Bool) → (y ≡ i → here ≡ eqb x w) → old ≡ ((ltb y i && here) || entry) → new ≡ ((eqb x w && eqb y i) || old) → new ≡ ((ltb y (i + 1) && here) || entry)
ends_at x y w i old new entry here same was added = grind (arith, nat_tests)

ends_not : (y i : ℕ) (old entry here : Bool) → (y ≡ i → T here → ⊥) → old ≡ ((ltb y i && here) || entry) → old ≡ ((ltb y (i + 1) && here) || entry)
ends_not y i old entry here none was = grind (arith, nat_tests)

module _ (r : ℕ → ℕ → Bool) (entry : Relation) where
  -- the links to events below i
  abbrev pub Links : Relation → ℕ → Type 0
  Links t i = Is t (λ x y. (ltb y i && r x y) || holds entry x y)

  pub one_link : (t u : Relation) (w i : ℕ) → r w i ≡ true → ((x : ℕ) → T (r x i) → w ≡ x) → Links t i → Is u (λ x y. (eqb x w && eqb y i) || holds t x y) → Links u (i + 1)
  one_link t u w i h alone was added x y = ends_at x y w i (holds t x y) (holds u x y) (holds entry x y) (r x y)
      (λ e. ap (r x) e ∙ alone_there w x (r x i) (alone x) (λ d. ap (λ z. r z i) (sym d) ∙ h)) (was x y) (added x y)

  pub no_link : (t : Relation) (i : ℕ) → ((x : ℕ) → T (r x i) → ⊥) → Links t i → Links t (i + 1)
  no_link t i none was x y = ends_not y i (holds t x y) (holds entry x y) (r x y) (λ e h. none x (subst (λ z. T (r x z)) e h)) (was x y)
