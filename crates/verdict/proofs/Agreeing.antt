-- Full modification orders with equal places of all open writes are the same.
use Rattle.std.proofs.Common.{◌≡◌, ℕ, zero, suc, ◌<◌, ◌&&◌, T, ◌⊎◌, List, length, get_or, Some, None, sym, ap, ◌∙◌, subst, inl, inr, arith, ltb→lt, lt→ltb}
use Rattle.std.proofs.lemmas.Bool.{cases_eq}
use Rattle.event.specs.declared.event.Event.{Event}
use Rattle.event.specs.Labels.{no_event, agree, is_write, one_location}
use Rattle.execution.specs.Lists.{holds}
use Rattle.execution.specs.Content.{Content, label_of, same_location, is_open, mo}
use Rattle.execution.specs.Sound.{Sound, Within}
use Rattle.execution.proofs.Tests.{both, left, right, either, no}
use Rattle.execution.proofs.Lists.{precedes_first, precedes_second}
use Rattle.execution.proofs.Among.{mo_among}
use Rattle.verdict.specs.Completions.{Completion}
use Rattle.verdict.specs.Places.{there_before, place_of}
use Rattle.verdict.proofs.Lists.{or_left, or_right, test, precedes_one_way, precedes_some_way, precedes_trans}
use Rattle.verdict.proofs.Counting.{count_less}
use Rattle.verdict.proofs.Reading.{one_location_same, one_location_swap}

-- the modification order of one graph
module _ (h : Content) (sh : Sound h) where
  pub mo_irreflexive : (a : ℕ) → T (mo h a a) → ⊥
  mo_irreflexive a k = let p = right (same_location h a a) _ k in precedes_one_way h.placed a a sh.placed_once p p

  pub mo_one_way : (a b : ℕ) → T (mo h a b) → T (mo h b a) → ⊥
  mo_one_way a b k j = precedes_one_way h.placed a b sh.placed_once (right (same_location h a b) _ k) (right (same_location h b a) _ j)

  pub mo_trans : (a b c : ℕ) → T (mo h a b) → T (mo h b c) → T (mo h a c)
  mo_trans a b c k j =
      both (same_location h a c) _
      (one_location_same (label_of h a) (label_of h c) (label_of h b) (left (same_location h a b) _ k) (one_location_swap (label_of h b) (label_of h c) (left (same_location h b c) _ j)))
      (precedes_trans h.placed a b c sh.placed_once (right (same_location h a b) _ k) (right (same_location h b c) _ j))

  pub mo_first : (a b : ℕ) → T (mo h a b) → T (holds h.placed a)
  mo_first a b k = precedes_first h.placed a b (right (same_location h a b) _ k)

  pub mo_second : (a b : ℕ) → T (mo h a b) → T (holds h.placed b)
  mo_second a b k = precedes_second h.placed a b (right (same_location h a b) _ k)

  -- placed at one location, one stands before the other
  pub mo_some_way : (a b : ℕ) → T (same_location h a b) → T (holds h.placed a) → T (holds h.placed b) → (a ≡ b → ⊥) → T (mo h a b) ⊎ T (mo h b a)
  mo_some_way a b s p q n = elim (precedes_some_way h.placed a b p q n) [
    | inl k ↦ inl (both (same_location h a b) _ s k)
    | inr k ↦ inr (both (same_location h b a) _ (one_location_swap (label_of h a) (label_of h b) s) k)
  ]

module _ (g : Content) (sg : Sound g) where
  -- of the writes that are there before n comes, the pairs of h are pairs of f
  abbrev pub Agree : ℕ → Content → Content → Type 0
  Agree n h f = (a b : ℕ) → T (there_before g n a) → T (there_before g n b) → T (mo h a b) → T (mo f a b)

  module _ (h f : Content) (c : Completion g h) (d : Completion g f) where
    events_same : h.events ≡ f.events
    events_same = c.events ∙ sym d.events

    location_same : (a b : ℕ) → T (same_location h a b) → T (same_location f a b)
    location_same a b = subst (λ (es : List Event). T (one_location (get_or es a no_event).label (get_or es b no_event).label)) events_same

    -- what h has placed is a write, and so placed in f
    pub placed_too : (w : ℕ) → T (holds h.placed w) → T (holds f.placed w)
    placed_too w k = d.full w (subst (λ (es : List Event). T (is_write (get_or es w no_event).label)) events_same (c.sound.placed_writes w k))

    -- in f one stands before the other wherever in h it does
    some_way : (a b : ℕ) → T (mo h a b) → T (mo f a b) ⊎ T (mo f b a)
    some_way a b k =
        mo_some_way f d.sound a b (location_same a b (left (same_location h a b) _ k))
        (placed_too a (mo_first h c.sound a b k)) (placed_too b (mo_second h c.sound a b k))
        (λ e. mo_irreflexive h c.sound b (subst (λ x. T (mo h x b)) e k))

    -- pairs of g's placements are those of g itself
    agree_placed : (a b : ℕ) → T (holds g.placed a) → T (holds g.placed b) → T (mo h a b) → T (mo f a b)
    agree_placed a b p q k = elim (mo_some_way g sg a b near p q (λ e. mo_irreflexive h c.sound b (subst (λ x. T (mo h x b)) e k))) [
      | inl j ↦ d.extends a b j
      | inr j ↦ absurd (mo_one_way h c.sound a b k (c.extends b a j))
    ]
      where
        near : T (same_location g a b)
        near = subst (λ (es : List Event). T (one_location (get_or es a no_event).label (get_or es b no_event).label)) c.events (left (same_location h a b) _ k)

  -- what stands before w in h does so in f, where the places of w are equal: else fewer would stand before it in f
  module _ (h f : Content) (c : Completion g h) (d : Completion g f) (w : ℕ) (back : Agree w f h) (equal : place_of g h w ≡ place_of g f w) where
    module _ (a : ℕ) (there : T (there_before g w a)) (k : T (mo h a w)) (n : T (mo f a w) → ⊥) where
      -- what stands before w in f stands before a, and so before w in h
      stands_before : (x : ℕ) → T (mo f x w) → T (mo f x a)
      stands_before x before = elim (mo_some_way f d.sound x a near (mo_first f d.sound x w before) (placed_too h f c d a (mo_first h c.sound a w k)) (λ e. n (subst (λ y. T (mo f y w)) e before))) [
        | inl q ↦ q
        | inr q ↦ absurd (n (mo_trans f d.sound a x w q before))
      ]
        where
          near : T (same_location f x a)
          near = one_location_same (label_of f x) (label_of f a) (label_of f w) (left (same_location f x w) _ before) (location_same h f c d a w (left (same_location h a w) _ k))

      keeps : (x : ℕ) → T (mo f x w && there_before g w x) → T (mo h x w && there_before g w x)
      keeps x j =
          let before = left (mo f x w) _ j in
          let earlier = right (mo f x w) _ j in
          both (mo h x w) _ (mo_trans h c.sound x a w (back x a earlier there (stands_before x before)) k) earlier

      fewer : place_of g f w < place_of g h w
      fewer =
          count_less (length g.events) (λ x. mo f x w && there_before g w x) (λ x. mo h x w && there_before g w x) (λ x l j. keeps x j) a
          (subst (λ (es : List Event). a < length es) c.events (mo_among h c.sound a w k).0) (both (mo h a w) _ k there) (λ j. n (left (mo f a w) _ j))

    before_too : (a : ℕ) → T (there_before g w a) → T (mo h a w) → T (mo f a w)
    before_too a there k = elim (test (mo f a w)) [
      | inl j ↦ j
      | inr n ↦ let less = fewer a there k n in absurd (omega arith)
    ]

  -- what is there before the next number comes
  there_next : (n a : ℕ) → T (there_before g (suc n) a) → T (there_before g n a) ⊎ (a ≡ n)
  there_next n a t = elim (either (holds g.placed a) _ t) [
    | inl p ↦ inl (or_left (holds g.placed a) _ p)
    | inr l ↦ elim (cases_eq a n) [
      | inl e ↦ inr e
      | inr ne ↦ let below = ltb→lt a (suc n) l in inl (or_right (holds g.placed a) _ (lt→ltb a n (omega arith)))
    ]
  ]

  -- w is placed in h but not in g
  newly_placed : (h : Content) → Completion g h → (w : ℕ) → T (holds h.placed w) → (T (holds g.placed w) → ⊥) → T (is_open g w)
  newly_placed h c w k n =
      both (is_write (label_of g w)) _ (subst (λ (es : List Event). T (is_write (get_or es w no_event).label)) c.events (c.sound.placed_writes w k)) (no (holds g.placed w) n)

  module _ (h f : Content) (c : Completion g h) (d : Completion g f) (w : ℕ) (forth : Agree w h f) (back : Agree w f h) (equal : T (is_open g w) → place_of g h w ≡ place_of g f w) where
    agree_next : Agree (suc w) h f
    agree_next a b ta tb k = elim (test (holds g.placed w)) [
      | inl p ↦ forth a b (earlier p a ta) (earlier p b tb) k
      | inr n ↦ elim (there_next w b tb) [
        | inl qb ↦ elim (there_next w a ta) [
          | inl qa ↦ forth a b qa qb k
          | inr e ↦ subst (λ x. T (mo f x b)) (sym e) (behind n b qb (subst (λ x. T (mo h x b)) e k))
        ]
        | inr e ↦ subst (λ x. T (mo f a x)) (sym e) (ahead n a ta (subst (λ x. T (mo h a x)) e k))
      ]
    ]
      where
        earlier : T (holds g.placed w) → (x : ℕ) → T (there_before g (suc w) x) → T (there_before g w x)
        earlier p x t = elim (there_next w x t) [
          | inl q ↦ q
          | inr e ↦ or_left (holds g.placed x) _ (subst (λ y. T (holds g.placed y)) (sym e) p)
        ]

        opened : (T (holds g.placed w) → ⊥) → T (holds h.placed w) → place_of g h w ≡ place_of g f w
        opened n k = equal (newly_placed h c w k n)

        ahead : (T (holds g.placed w) → ⊥) → (x : ℕ) → T (there_before g (suc w) x) → T (mo h x w) → T (mo f x w)
        ahead n x t j = elim (there_next w x t) [
          | inl q ↦ before_too h f c d w back (opened n (mo_second h c.sound x w j)) x q j
          | inr e ↦ absurd (mo_irreflexive h c.sound w (subst (λ y. T (mo h y w)) e j))
        ]

        behind : (T (holds g.placed w) → ⊥) → (x : ℕ) → T (there_before g w x) → T (mo h w x) → T (mo f w x)
        behind n x t j = elim (some_way h f c d w x j) [
          | inl q ↦ q
          | inr q ↦ absurd (mo_one_way h c.sound w x j (before_too f h d c w forth (sym (opened n (mo_first h c.sound w x j))) x t q))
        ]

  module _ (h f : Content) (c : Completion g h) (d : Completion g f) (equal : (w : ℕ) → T (is_open g w) → place_of g h w ≡ place_of g f w) where
    agree_upto : (n : ℕ) → Agree n h f × Agree n f h
    agree_upto zero = (
      λ a b ta tb k. agree_placed h f c d a b (placed_already a ta) (placed_already b tb) k,
      λ a b ta tb k. agree_placed f h d c a b (placed_already a ta) (placed_already b tb) k,
    )
      where
        placed_already : (x : ℕ) → T (there_before g 0 x) → T (holds g.placed x)
        placed_already x t = elim (either (holds g.placed x) _ t) [ inl p ↦ p | inr l ↦ let below = ltb→lt x 0 l in absurd (omega arith) ]
    agree_upto (suc n) =
        let ih = agree_upto n in
        (agree_next h f c d n ih.0 ih.1 (equal n), agree_next f h d c n ih.1 ih.0 (λ o. sym (equal n o)))

    -- so h is within f
    pub same_order : (a b : ℕ) → T (mo h a b) → T (mo f a b)
    same_order a b k =
        let l = mo_among h c.sound a b k in
        (agree_upto (length h.events)).0 a b
        (or_right (holds g.placed a) _ (lt→ltb a (length h.events) l.0))
        (or_right (holds g.placed b) _ (lt→ltb b (length h.events) l.1)) k

    pub within_same : Within h f
    within_same = record {
      threads = c.threads ∙ sym d.threads;
      locations = c.locations ∙ sym d.locations;
      count = omega (arith, ap length (events_same h f c d));
      events = λ a l. ap (λ (es : List Event). get_or es a no_event) (events_same h f c d);
      links = λ w r k. subst (λ ss. T (agree (get_or ss r None) (Some w))) (c.sources ∙ sym d.sources) k;
      order = same_order;
    }
