-- What `find` answers on a set: the lowest event that passes.
use Rattle.std.proofs.Common.{◌≡◌, ℕ, ◌<◌, Bool, true, false, T, List, [], ◌∷◌, Option, Some, None, sym, refl, ◌∙◌, subst, inl, inr, arith}
use Rattle.std.specs.Fn.{CalledAt}
use Rattle.std.specs.Iterator.{YieldsThen}
use Rattle.std.specs.List.{FoldsTo}
use Rattle.std.specs.Option.{MatchOption}
use denote.Param.Members.{Mut}
use denote.Ref.{Bor}
use Rattle.std.proofs.lemmas.Bool.{cases_eq}
use Rattle.std.proofs.lemmas.Bool.Decides.{nat_tests}
use Rattle.event_set.specs.Sets.{has, Gives}
use Rattle.event_set.specs.declared.event_set.EventSet.{EventSet}

not_there : (t : Bool) → t ≡ false → T t → ⊥
not_there t e h = grind arith

module _ {F : Type 0} {g : Mut F (Bor ℕ × Unit {0}) Bool} (f : F) (Yes No : ℕ → Type 0) (yes : (x : ℕ) (q : F) → CalledAt g f x true q → Yes x) (no : (x : ℕ) (q : F) → CalledAt g f x false q → (q ≡ f) × No x) where
  abbrev pub Lowest : EventSet → Option ℕ → Type 0
  Lowest s r = MatchOption r ((x : ℕ) → T (has s x) → No x) (λ a. T (has s a) × Yes a × ((x : ℕ) → x < a → T (has s x) → No x))

  -- at the call that ends it
  last : (s u : EventSet) (r : Option ℕ) → Gives s r u → MatchOption r (Unit {0}) (λ a. (q : F) × CalledAt g f a true q) → Lowest s r
  last s u None h k = λ x there. absurd (not_there _ (h.0 x) there)
  last s u (Some a) h k = (h.0, yes a k.0 k.1, λ x l there. absurd (not_there _ (h.1 x l) there))

  -- an event before it
  earlier : (s t : EventSet) (a : ℕ) (r : Option ℕ) → Gives s (Some a) t → No a → Lowest t r → Lowest s r
  earlier s t a None h n low = λ x there. elim (cases_eq x a) [
    | inl e ↦ subst No (sym e) n
    | inr o ↦ low x (let rest = h.2 x in grind (arith, nat_tests))
  ]
  earlier s t a (Some b) h n low = (
    let rest = h.2 b in let there = low.0 in grind (arith, nat_tests),
    low.1,
    λ x l there. elim (cases_eq x a) [
      | inl e ↦ subst No (sym e) n
      | inr o ↦ low.2 x l (let rest = h.2 x in grind (arith, nat_tests))
    ],
  )

  lowest_found : (s u : EventSet) (r : Option ℕ) (p : F) (xs : List ℕ) (j : F) → p ≡ f → YieldsThen Gives s xs r u → FoldsTo (λ q x q'. CalledAt g q x false q') p xs j
      → MatchOption r (Unit {0}) (λ x. (q : F) × CalledAt g j x true q) → Lowest s r
  lowest_found s u r p [] j e y calls k =
      let here = subst (λ (i : F). MatchOption r (Unit {0}) (λ x. (q : F) × CalledAt g i x true q)) (sym calls ∙ e) k in
      subst (λ (t : EventSet). Lowest t r) (sym y.1) (last y.0 u r y.2 here)
  lowest_found s u r p (x ∷ xs) j e y calls k =
      let more = y.1 in
      let called = no x calls.0 (subst (λ (i : F). CalledAt g i x false calls.0) e calls.1) in
      earlier s more.0 x r more.1 called.1 (lowest_found more.0 u r calls.0 xs j called.0 (y.0, more.2, y.2) calls.2 k)

  pub lowest_by_find : (s u : EventSet) (r : Option ℕ)
      → (xs : List ℕ) × (j : F) × YieldsThen Gives s xs r u × FoldsTo (λ q x q'. CalledAt g q x false q') f xs j × MatchOption r (Unit {0}) (λ x. (q : F) × CalledAt g j x true q)
      → Lowest s r
  lowest_by_find s u r w = lowest_found s u r f w.0 w.1 refl w.2 w.3 w.4
