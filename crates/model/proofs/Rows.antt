-- Tables that are filled row by row.
use Rattle.std.proofs.Common.{◌≡◌, ℕ, ◌+◌, ◌<◌, ◌≤◌, Bool, true, false, ◌&&◌, ◌||◌, T, eqb, ltb, sym, ap, ◌∙◌, arith}
use Rattle.std.proofs.lemmas.Bool.Decides.{nat_tests}
use Rattle.relation.specs.declared.table.Relation.{Relation}
use Rattle.relation.specs.Table.{holds, Is}

-- the row of a
this_row : (a x : ℕ) (old new entry row here : Bool) → (x ≡ a → row ≡ here)
    → old ≡ ((ltb x a && here) || entry) → new ≡ (old || (eqb x a && row)) → new ≡ ((ltb x (a + 1) && here) || entry)
this_row a x old new entry row here same was added = grind (arith, nat_tests)

no_more : (a x : ℕ) (old entry here : Bool) → (x ≡ a → here ≡ false) → old ≡ ((ltb x a && here) || entry) → old ≡ ((ltb x (a + 1) && here) || entry)
no_more a x old entry here same was = grind (arith, nat_tests)

-- the rows, or the columns, that are left are empty
pub no_rest : (n a x : ℕ) (all entry here : Bool) → n ≤ a → (T here → x < n) → all ≡ ((ltb x a && here) || entry) → all ≡ (here || entry)
no_rest n a x all entry here past inside was = grind (arith, nat_tests)

pub no_others : (n a x : ℕ) (all here : Bool) → n ≤ a → (T here → x < n) → all ≡ (ltb x a && here) → all ≡ here
no_others n a x all here past inside was = grind (arith, nat_tests)

-- a set that is filled one by one
with_this : (a x : ℕ) (old new here : Bool) → (x ≡ a → here ≡ true) → old ≡ (ltb x a && here) → new ≡ (eqb x a || old) → new ≡ (ltb x (a + 1) && here)
with_this a x old new here same was added = grind (arith, nat_tests)

without_this : (a x : ℕ) (old here : Bool) → (x ≡ a → here ≡ false) → old ≡ (ltb x a && here) → old ≡ (ltb x (a + 1) && here)
without_this a x old here same was = grind (arith, nat_tests)

pub one_more : (f : ℕ → Bool) (a x : ℕ) (old new : Bool) → f a ≡ true → old ≡ (ltb x a && f x) → new ≡ (eqb x a || old) → new ≡ (ltb x (a + 1) && f x)
one_more f a x old new h = with_this a x old new (f x) (λ e. ap f e ∙ h)

pub none_more : (f : ℕ → Bool) (a x : ℕ) (old : Bool) → f a ≡ false → old ≡ (ltb x a && f x) → old ≡ (ltb x (a + 1) && f x)
none_more f a x old h = without_this a x old (f x) (λ e. ap f e ∙ h)

alone : (p q : Bool) → q ≡ false → (p || q) ≡ p
alone p q e = grind arith

-- what is added to an empty table is all that it holds
pub into_empty : (r : ℕ → ℕ → Bool) (none t : Relation) → Is none (λ _ _. false) → Is t (λ a b. r a b || holds none a b) → Is t r
into_empty r none t empty added a b = added a b ∙ alone (r a b) (holds none a b) (empty a b)

module _ (r : ℕ → ℕ → Bool) (entry : Relation) where
  -- the rows below a
  abbrev pub Rows : Relation → ℕ → Type 0
  Rows t a = Is t (λ x y. (ltb x a && r x y) || holds entry x y)

  pub one_row : (t u : Relation) (a : ℕ) (row : ℕ → Bool) → ((y : ℕ) → row y ≡ r a y) → Rows t a
      → Is u (λ x y. holds t x y || (eqb x a && row y)) → Rows u (a + 1)
  one_row t u a row same was added x y =
      this_row a x (holds t x y) (holds u x y) (holds entry x y) (row y) (r x y) (λ e. same y ∙ ap (λ z. r z y) (sym e)) (was x y) (added x y)

  pub empty_row : (t : Relation) (a : ℕ) → ((y : ℕ) → r a y ≡ false) → Rows t a → Rows t (a + 1)
  empty_row t a none was x y = no_more a x (holds t x y) (holds entry x y) (r x y) (λ e. ap (λ z. r z y) e ∙ none y) (was x y)

  pub all_rows : (t : Relation) (n a : ℕ) → n ≤ a → ((x y : ℕ) → T (r x y) → x < n) → Rows t a → Is t (λ x y. r x y || holds entry x y)
  all_rows t n a past inside was x y = no_rest n a x (holds t x y) (holds entry x y) (r x y) past (inside x y) (was x y)
