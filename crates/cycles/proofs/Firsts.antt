-- The first cycle: how it is found, that it is told from its lowest event, and that there is one at most.
use Rattle.std.proofs.Common.{◌≡◌, ℕ, ◌<◌, ◌≤◌, Bool, T, List, [], ◌∷◌, ◌++◌, length, sym, refl, ap, ◌∙◌, subst, inl, inr, arith, length-append}
use lib.Seq.{append_snoc}
use Rattle.std.specs.List.{AllByRecursion}
use Rattle.std.proofs.lemmas.Bool.{cases_order}
use Rattle.cycles.specs.Cycles.{Leads, Cycle, Acyclic, NotAfter, FirstCycle, Way}
use Rattle.cycles.specs.Laws.{OneFirstCycle}
use Rattle.cycles.proofs.Walks.{Inside, leads_append, leads_split}
use Rattle.cycles.proofs.Repeats.{short_cycle}

module _ (r : ℕ → ℕ → Bool) where
  -- a way from a by xs to z, and none by as many events comes before it
  pub record FirstWay (a : ℕ) (xs : List ℕ) (z : ℕ) : Type 0 where
    pub leads : Leads r a xs z
    pub first : (ys : List ℕ) → Leads r a ys z → length ys ≡ length xs → NotAfter xs ys

  pub first_way_none : (a z : ℕ) → T (r a z) → FirstWay a [] z
  first_way_none a z h = record { leads = h; first = λ ys k e. tt }

  -- the lowest event from which a way of that length goes on, and then the first way from there
  pub first_way_more : (a x : ℕ) (xs : List ℕ) (z : ℕ) → T (r a x) → ((y : ℕ) → y < x → T (r a y) → Way r (length xs) y z → ⊥)
      → FirstWay x xs z → FirstWay a (x ∷ xs) z
  first_way_more a x xs z h low f = record { leads = (h, f.leads); first = go }
    where
      go : (ys : List ℕ) → Leads r a ys z → length ys ≡ length (x ∷ xs) → NotAfter (x ∷ xs) ys
      go [] k e = absurd (omega arith)
      go (y ∷ ys) k e =
          let same : length ys ≡ length xs = omega arith in
          elim (cases_order x y) [
            | inl q ↦ inr (q, f.first ys (subst (λ v. Leads r v ys z) (sym q) k.1) same)
            | inr o ↦ elim o [
              | inl l ↦ inl l
              | inr l ↦ absurd (low y l k.0 (ys, same, k.1))
            ]
          ]

  -- a cycle as short as any, told from the event at which it comes first, is told from its lowest event
  from_lowest : (a : ℕ) (xs : List ℕ) → Leads r a xs a
      → ((ys : List ℕ) → Cycle r ys → length ys ≡ length (a ∷ xs) → NotAfter (a ∷ xs) ys) → AllByRecursion (λ x. a ≤ x) xs
  from_lowest a xs h first = each [] xs refl
    where
      lower : (ys : List ℕ) (x : ℕ) (zs : List ℕ) → xs ≡ ys ++ (x ∷ zs) → a ≤ x
      lower ys x zs e =
          let k = leads_split r a ys x zs a (subst (λ (l : List ℕ). Leads r a l a) e h) in
          let lengths = ap length e in
          let forth = length-append ys (x ∷ zs) in
          let back = length-append zs (a ∷ ys) in
          elim (first (x ∷ (zs ++ (a ∷ ys))) (leads_append r x zs a ys x k.1 k.0) (omega arith)) [
            | inl l ↦ omega arith
            | inr p ↦ let same = p.0 in omega arith
          ]

      each : (ys zs : List ℕ) → xs ≡ ys ++ zs → AllByRecursion (λ x. a ≤ x) zs
      each ys [] e = tt
      each ys (x ∷ zs) e = (lower ys x zs e, each (ys ++ (x ∷ [])) zs (e ∙ sym (append_snoc ys x zs)))

  -- no event returns to itself by fewer than k events
  abbrev pub NoneShorter : ℕ → Type 0
  NoneShorter k = (a : ℕ) (ys : List ℕ) → Leads r a ys a → k ≤ length ys

  pub is_first_cycle : (a : ℕ) (xs : List ℕ) → NoneShorter (length xs) → ((b : ℕ) → b < a → Way r (length xs) b b → ⊥)
      → FirstWay a xs a → FirstCycle r (a ∷ xs)
  is_first_cycle a xs none low f = record { round = f.leads; from_lowest = from_lowest a xs f.leads first; shortest = shortest; first = first }
    where
      shortest : (ys : List ℕ) → Cycle r ys → length (a ∷ xs) ≤ length ys
      shortest [] h = elim h [ ]
      shortest (b ∷ ys) h = omega (arith, none b ys h)

      first : (ys : List ℕ) → Cycle r ys → length ys ≡ length (a ∷ xs) → NotAfter (a ∷ xs) ys
      first [] h e = elim h [ ]
      first (b ∷ ys) h e =
          let same : length ys ≡ length xs = omega arith in
          elim (cases_order a b) [
            | inl q ↦ inr (q, f.first ys (subst (λ v. Leads r v ys v) (sym q) h) same)
            | inr o ↦ elim o [
              | inl l ↦ inl l
              | inr l ↦ absurd (low b l (ys, same, h))
            ]
          ]

  -- no return by fewer than n events is none at all
  pub none_acyclic : (n : ℕ) → Inside n r → NoneShorter n → Acyclic r
  none_acyclic n inside none xs h = go (short_cycle r n inside xs h)
    where
      go : (ys : List ℕ) × Cycle r ys × (length ys ≤ n) → ⊥
      go p = at p.0 p.1 p.2
        where
          at : (ys : List ℕ) → Cycle r ys → length ys ≤ n → ⊥
          at [] k l = k
          at (a ∷ ys) k l = omega (arith, none a ys k)

both_first : (xs ys : List ℕ) → NotAfter xs ys → NotAfter ys xs → length xs ≡ length ys → xs ≡ ys
both_first [] [] h k e = refl
both_first [] (y ∷ ys) h k e = absurd (omega arith)
both_first (x ∷ xs) [] h k e = elim h [ ]
both_first (x ∷ xs) (y ∷ ys) h k e = elim h [
  | inl l ↦ elim k [
    | inl m ↦ absurd (omega arith)
    | inr q ↦ let same = q.0 in absurd (omega arith)
  ]
  | inr p ↦ elim k [
    | inl m ↦ let same = p.0 in absurd (omega arith)
    | inr q ↦
        let same = p.0 in
        let rest = both_first xs ys p.1 q.1 (omega arith) in
        cc
  ]
]

pub one_first_cycle : OneFirstCycle
one_first_cycle r xs ys f g =
    let up = f.shortest ys g.round in
    let down = g.shortest xs f.round in
    let same : length ys ≡ length xs = omega arith in
    both_first xs ys (f.first ys g.round same) (g.first xs f.round (sym same)) (sym same)
