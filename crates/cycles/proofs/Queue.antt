-- The events that are still to be listed, and that a list exists where there is no cycle.
use Rattle.std.proofs.Common.{◌≡◌, ℕ, zero, suc, ◌+◌, ◌<◌, ◌≤◌, min, Bool, true, false, not, ◌&&◌, ◌||◌, T, eqb, ltb, ◌⊎◌, List, [], ◌∷◌, ◌++◌, length, sym, refl, ap, subst, inl, inr, arith}
use Rattle.std.proofs.lemmas.List.{length_push}
use Rattle.std.proofs.lemmas.Bool.{cases_lt, cases_eq}
use Rattle.std.proofs.lemmas.Bool.Decides.{nat_tests}
use Rattle.cycles.specs.Cycles.{Cyclic, Acyclic}
use Rattle.cycles.specs.Listings.{stands, among, Ready, Listing}
use Rattle.cycles.specs.Laws.{ListedExactlyWithoutCycles}
use Rattle.cycles.proofs.Tests.{test, is_false}
use Rattle.cycles.proofs.Repeats.{stuck_round}
use Rattle.cycles.proofs.Listed.{Begun, begun_none, begun_more, begun_bound, begun_all, among_inside, stands_last, listed_is_acyclic}

-- s has those of the first n events that do not stand in ys
abbrev pub Queue : ℕ → List ℕ → (ℕ → Bool) → Type 0
Queue n ys s = (x : ℕ) → s x ≡ (ltb x n && not (stands ys x))

-- x is paired with an event of s
abbrev pub Waits : (ℕ → ℕ → Bool) → (ℕ → Bool) → ℕ → Type 0
Waits r s x = (y : ℕ) × T (r x y) × T (s y)

pub queue_none : (n : ℕ) (s : ℕ → Bool) (ys : List ℕ) → ((x : ℕ) → s x ≡ (ltb x 256 && ltb x n)) → ys ≡ [] → Queue (min n 256) ys s
queue_none n s ys below none x =
    let at = below x in
    let listed : stands ys x ≡ false = ap (λ (l : List ℕ). stands l x) none in
    grind (arith, nat_tests)

module _ (n : ℕ) (ys : List ℕ) (s : ℕ → Bool) (queue : Queue n ys s) where
  left_inside : (x : ℕ) → T (s x) → x < n
  left_inside x h = let at = queue x in grind (arith, nat_tests)

  left_new : (x : ℕ) → T (s x) → T (stands ys x) → ⊥
  left_new x h k = let at = queue x in grind (arith, nat_tests)

  left_has : (x : ℕ) → x < n → (T (stands ys x) → ⊥) → T (s x)
  left_has x l k = let at = queue x in grind (arith, nat_tests)

  -- one more listed
  pub queue_more : (a : ℕ) (t : ℕ → Bool) → ((x : ℕ) → t x ≡ (not (eqb x a) && s x)) → Queue n (ys ++ (a ∷ [])) t
  queue_more a t rest x =
      let after = rest x in
      let before = queue x in
      let listed = stands_last ys a x in
      grind (arith, nat_tests)

  module _ (r back : ℕ → ℕ → Bool) (turned : (x y : ℕ) → back x y ≡ r y x) where
    -- an event that waits for none of those left is ready
    free_ready : (a : ℕ) → T (s a) → (Waits back s a → ⊥) → Ready r n ys a
    free_ready a h free = record {
      inside = left_inside a h;
      new = left_new a h;
      preceded = λ p k. elim (test (stands ys p)) [
        | inl j ↦ j
        | inr j ↦ absurd (free (p, subst T (sym (turned a p)) (paired p k), left_has p (among_inside n r p a k).0 j))
      ];
    }
      where
        paired : (p : ℕ) → T (among n r p a) → T (r p a)
        paired p k = grind arith

    -- and each that is ready waits for none
    ready_free : (b : ℕ) → Ready r n ys b → Waits back s b → ⊥
    ready_free b h w =
        let y = w.0 in
        let pair : T (r y b) = subst T (turned b y) w.1 in
        let low = left_inside y w.2 in
        let own = h.inside in
        left_new y w.2 (h.preceded y (grind (arith, nat_tests)))

    lowest_ready : (a : ℕ) → ((x : ℕ) → x < a → T (s x) → Waits back s x) → (b : ℕ) → Ready r n ys b → a ≤ b
    lowest_ready a low b h = elim (cases_lt b a) [
      | inr l ↦ l
      | inl l ↦ absurd (ready_free b h (low b l (left_has b h.inside h.new)))
    ]

    -- the lowest that waits for none goes on the list
    pub lists_on : (a : ℕ) → T (s a) × (Waits back s a → ⊥) × ((x : ℕ) → x < a → T (s x) → Waits back s x)
        → Begun r n ys → Begun r n (ys ++ (a ∷ []))
    lists_on a h begun = begun_more r n ys a begun (free_ready a h.0 h.1) (lowest_ready a h.2)

    -- where all that are left wait, they have a cycle
    pub all_wait : ((x : ℕ) → T (s x) → Waits back s x) → (a : ℕ) → T (s a) → Cyclic (among n r)
    all_wait waits a h = stuck_round (among n r) n (among_inside n r) s each a h
      where
        each : (x : ℕ) → T (s x) → (p : ℕ) × T (s p) × T (among n r p x)
        each x k =
            let w = waits x k in
            let p = w.0 in
            let pair : T (r p x) = subst T (turned x p) w.1 in
            let low = left_inside p w.2 in
            let own = left_inside x k in
            (p, w.2, grind (arith, nat_tests))

  -- where none is left, all are listed
  pub all_listed : (r : ℕ → ℕ → Bool) → Begun r n ys → ((x : ℕ) → s x ≡ false) → Listing r n ys
  all_listed r begun none = begun_all r n ys begun (λ a l. elim (test (stands ys a)) [
    | inl j ↦ j
    | inr j ↦ let here = left_has a l j in let gone = none a in absurd (grind arith)
  ])

-- the lowest number below m that passes, if any
lowest : (m : ℕ) (p : ℕ → Bool)
    → ((x : ℕ) → x < m → T (p x) → ⊥) ⊎ ((a : ℕ) × (a < m) × T (p a) × ((x : ℕ) → x < a → T (p x) → ⊥))
lowest zero p = inl (λ x l. absurd (omega arith))
lowest (suc m) p = elim (lowest m p) [
  | inr w ↦ let l = w.1 in inr (w.0, omega arith, w.2, w.3)
  | inl none ↦ elim (test (p m)) [
    | inl h ↦ inr (m, omega arith, h, none)
    | inr h ↦ inl (λ x l k. elim (cases_eq x m) [ inl e ↦ h (subst (λ y. T (p y)) e k) | inr o ↦ none x (omega arith) k ])
  ]
]

-- whether some number below m passes
any : ℕ → (ℕ → Bool) → Bool
any zero p = false
any (suc m) p = p m || any m p

any_some : (m : ℕ) (p : ℕ → Bool) → T (any m p) → (a : ℕ) × T (p a)
unfolding any
any_some zero p h = elim h [ ]
any_some (suc m) p h = elim (test (p m)) [
  | inl k ↦ (m, k)
  | inr k ↦ any_some m p (grind arith)
]

any_at : (m : ℕ) (p : ℕ → Bool) (a : ℕ) → a < m → T (p a) → T (any m p)
unfolding any
any_at zero p a l h = absurd (omega arith)
any_at (suc m) p a l h = elim (cases_eq a m) [
  | inl e ↦ let here = subst (λ x. T (p x)) e h in grind arith
  | inr n ↦ let there = any_at m p a (omega arith) h in grind arith
]

module _ (r : ℕ → ℕ → Bool) (n : ℕ) (acyclic : Acyclic (among n r)) where
  abbrev left : List ℕ → ℕ → Bool
  left ys x = ltb x n && not (stands ys x)

  abbrev back : ℕ → ℕ → Bool
  back x y = r y x

  waits : List ℕ → ℕ → Bool
  waits ys a = any n (λ p. r p a && left ys p)

  does_wait : (ys : List ℕ) (a : ℕ) → T (waits ys a) → Waits back (left ys) a
  unfolding waits
  does_wait ys a h =
      let w = any_some n (λ p. r p a && left ys p) h in
      let p = w.0 in
      let both = w.1 in
      (p, (pick (r p a) (left ys p) both).0, (pick (r p a) (left ys p) both).1)
    where
      pick : (x y : Bool) → T (x && y) → T x × T y
      pick x y h = grind arith

  no_wait : (ys : List ℕ) (a : ℕ) → (T (waits ys a) → ⊥) → Waits back (left ys) a → ⊥
  unfolding waits
  no_wait ys a none w =
      let p = w.0 in
      let pair = w.1 in
      let there = w.2 in
      none (any_at n (λ q. r q a && left ys q) p (left_inside n ys (left ys) (λ x. refl) p there) (grind arith))

  free : List ℕ → ℕ → Bool
  free ys a = left ys a && not (waits ys a)

  is_free : (ys : List ℕ) (a : ℕ) → T (free ys a) → T (left ys a) × (T (waits ys a) → ⊥)
  unfolding free
  is_free ys a h = go (left ys a) (waits ys a) h
    where
      go : (x y : Bool) → T (x && not y) → T x × (T y → ⊥)
      go true true k = (tt, λ _. k)
      go true false k = (tt, λ q. q)
      go false y k = elim k [ ]

  not_free : (ys : List ℕ) (a : ℕ) → (T (free ys a) → ⊥) → T (left ys a) → T (waits ys a)
  unfolding free
  not_free ys a h k = go (left ys a) (waits ys a) h k
    where
      go : (x y : Bool) → (T (x && not y) → ⊥) → T x → T y
      go true true f q = tt
      go true false f q = f tt
      go false y f q = elim q [ ]

  -- all are listed, or one more is
  next : (ys : List ℕ) → Begun r n ys → Listing r n ys ⊎ ((a : ℕ) × Begun r n (ys ++ (a ∷ [])))
  next ys begun = elim (lowest n (free ys)) [
    | inr w ↦
        let a = w.0 in
        let f = is_free ys a w.2 in
        let waiting = λ (x : ℕ) (l : x < a) (h : T (left ys x)). does_wait ys x (not_free ys x (w.3 x l) h) in
        inr (a, lists_on n ys (left ys) (λ x. refl) r back (λ x y. refl) a (f.0, no_wait ys a f.1, waiting) begun)
    | inl none ↦ elim (lowest n (left ys)) [
      | inl gone ↦
          let empty = λ (x : ℕ). is_false (left ys x) (λ h. gone x (left_inside n ys (left ys) (λ y. refl) x h) h) in
          inl (all_listed n ys (left ys) (λ x. refl) r begun empty)
      | inr w ↦
          let inside = left_inside n ys (left ys) (λ y. refl) in
          let waiting = λ (x : ℕ) (h : T (left ys x)). does_wait ys x (not_free ys x (none x (inside x h)) h) in
          let round = all_wait n ys (left ys) (λ x. refl) r back (λ x y. refl) waiting w.0 w.2 in
          absurd (acyclic round.0 round.1)
    ]
  ]

  grow : (fuel : ℕ) (ys : List ℕ) → Begun r n ys → n ≤ length ys + fuel → (xs : List ℕ) × Listing r n xs
  grow zero ys begun room = elim (next ys begun) [
    | inl l ↦ (ys, l)
    | inr w ↦ absurd (omega (arith, begun_bound r n (ys ++ (w.0 ∷ [])) w.1, length_push ys w.0))
  ]
  grow (suc fuel) ys begun room = elim (next ys begun) [
    | inl l ↦ (ys, l)
    | inr w ↦ grow fuel (ys ++ (w.0 ∷ [])) w.1 (omega (arith, length_push ys w.0))
  ]

pub listed_exactly_without_cycles : ListedExactlyWithoutCycles
listed_exactly_without_cycles r n = (
  λ w. listed_is_acyclic r n w.0 w.1,
  λ acyclic. grow r n acyclic n [] (begun_none r n) (omega arith),
)
