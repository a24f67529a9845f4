-- Placing the lowest open write in every way, from the first place on, finds the filling to show.
use Rattle.std.proofs.Common.{◌≡◌, ℕ, ◌<◌, ◌≤◌, Bool, ◌&&◌, ◌||◌, T, eqb, ltb, leb, List, length, get_or, None, sym, ◌∙◌, subst, inl, inr, arith, eqb→eq, ltb→lt, lt→ltb, leb→le}
use lib.Dec.{eqb_refl}
use Rattle.std.proofs.lemmas.Bool.{cases_eq}
use Rattle.event.specs.declared.event.Event.{Event}
use Rattle.event.specs.Labels.{no_event, is_write, one_location}
use Rattle.execution.specs.Lists.{holds, precedes, insert_after}
use Rattle.execution.specs.Content.{Content, label_of, same_location, is_open, mo}
use Rattle.execution.specs.Sound.{Sound}
use Rattle.execution.specs.Entries.{denial, entered, place}
use Rattle.execution.proofs.Tests.{both, left, right, either, no, yes_no, same}
use Rattle.execution.proofs.Lists.{precedes_first, holds_insert, insert_holds, insert_after_it, insert_after_all}
use Rattle.execution.proofs.Among.{placed_among}
use Rattle.execution.proofs.Denied.{places}
use Rattle.execution.proofs.Placing.{place_within}
use Rattle.model.specs.Meaning.{Meaning, Serves}
use Rattle.verdict.specs.Numbers.{count}
use Rattle.verdict.specs.Places.{there_before, place_of}
use Rattle.verdict.specs.Fillings.{Filling, Fillable, FilledFirst}
use Rattle.verdict.proofs.Lists.{or_left, or_right, test, precedes_one_way, precedes_some_way, precedes_trans, never_before_itself}
use Rattle.verdict.proofs.Counting.{count_less, count_same}
use Rattle.verdict.proofs.Reading.{one_location_swap}
use Rattle.verdict.proofs.Inserting.{insert_holds_new, insert_before_rest}
use Rattle.search.proofs.Fits.{due_with, due_without}
use Rattle.search.proofs.Somewhere.{somewhere}

and_or_more : (a b c d : Bool) → (T b → T (c || d)) → T (a && (b || d)) → T (a && (c || d))
and_or_more a b c d f h = grind arith

-- no filling from n on serves with w directly after v
abbrev pub Failed : Meaning → ℕ → Content → ℕ → ℕ → Type 0
Failed m n g w v = denial g (place w v) ≡ None → Fillable m n (entered g (place w v)) → ⊥

-- w is the lowest open write of g from n on
module _ (g : Content) (sg : Sound g) (n w : ℕ) (from : n ≤ w) (opened : T (is_open g w)) (lowest : (u : ℕ) → n ≤ u → T (is_open g u) → w ≤ u) where
  -- g with w directly after v
  abbrev put : ℕ → Content
  put v = entered g (place w v)

  abbrev Fits : ℕ → Type 0
  Fits v = denial g (place w v) ≡ None

  stands : (v : ℕ) → Fits v → T (holds g.placed v)
  stands v fit = (places g w v fit).placed

  near : (v : ℕ) → Fits v → T (same_location g v w)
  near v fit = (places g w v fit).there

  -- what stands up to v, at its location
  abbrev front : ℕ → ℕ → Bool
  front v x = holds g.placed x && (same_location g x w && (eqb x v || precedes g.placed x v))

  module _ (v : ℕ) (fit : Fits v) (h : Content) (c : Filling n (put v) h) where
    above : Filling n g h
    above = record {
      threads = c.threads;
      locations = c.locations;
      events = c.events;
      sources = c.sources;
      sound = c.sound;
      full = λ x t d. c.full x t (due_with g n w v from x d);
      only = λ x k. due_without g n w v from x (c.only x k);
      extends = λ a b k. c.extends a b ((place_within g sg w v fit).order a b k);
    }

    in_g : (a b : ℕ) → T (same_location h a b) → T (same_location g a b)
    in_g a b = subst (λ (es : List Event). T (one_location (get_or es a no_event).label (get_or es b no_event).label)) c.events

    -- what is there when w is placed, and stands before it in h, is placed in g: w is the lowest
    placed_already : (x : ℕ) → T (mo h x w) → T (there_before g w x) → T (holds g.placed x)
    placed_already x k o = elim (either (holds g.placed x) (ltb x w) o) [
      | inl q ↦ q
      | inr z ↦ elim (either (holds g.placed x) (leb n x) (above.only x in_h)) [
        | inl q ↦ q
        | inr l ↦ elim (test (holds g.placed x)) [
          | inl q ↦ q
          | inr q ↦
              let below = ltb→lt x w z in
              let not-below = lowest x (leb→le n x l) (both (is_write (label_of g x)) _ wrote (no (holds g.placed x) q)) in
              absurd (omega arith)
        ]
      ]
    ]
      where
        in_h : T (holds h.placed x)
        in_h = precedes_first h.placed x w (right (same_location h x w) _ k)

        wrote : T (is_write (label_of g x))
        wrote = subst (λ (es : List Event). T (is_write (get_or es x no_event).label)) c.events (c.sound.placed_writes x in_h)

    up_to : (x : ℕ) → T (mo h x w) → T (holds g.placed x) → T (eqb x v || precedes g.placed x v)
    up_to x k q = elim (cases_eq x v) [
      | inl e ↦ or_left (eqb x v) _ (same x v e)
      | inr ne ↦ or_right (eqb x v) _ (elim (precedes_some_way g.placed x v q (stands v fit) ne) [
        | inl z ↦ z
        | inr z ↦
            let back = one_location_swap (label_of g x) (label_of g w) (in_g x w (left (same_location h x w) _ k)) in
            let after = c.extends w x (both (same_location g w x) _ back (insert_before_rest v w g.placed x sg.placed_once z)) in
            absurd (precedes_one_way h.placed x w c.sound.placed_once (right (same_location h x w) _ k) (right (same_location h w x) _ after))
      ])
    ]

    in_front : (x : ℕ) → T (front v x) → T (mo h x w)
    in_front x k = c.extends x w (both (same_location g x w) _ at (elim (either (eqb x v) (precedes g.placed x v) (right (same_location g x w) _ (right (holds g.placed x) _ k))) [
      | inl e ↦ subst (λ y. T (precedes (insert_after v w g.placed) y w)) (sym (eqb→eq x v e)) (insert_after_it v w g.placed (stands v fit))
      | inr z ↦ insert_after_all v w g.placed x sg.placed_once z
    ]))
      where
        at : T (same_location g x w)
        at = left (same_location g x w) _ (right (holds g.placed x) _ k)

    -- the place of w tells v
    place_front : place_of g h w ≡ count (length g.events) (front v)
    place_front = count_same (length g.events) (λ x. mo h x w && there_before g w x) (front v)
        (λ x l t.
        let k = left (mo h x w) _ t in
        let q = placed_already x k (right (mo h x w) _ t) in
        both (holds g.placed x) _ q (both (same_location g x w) _ (in_g x w (left (same_location h x w) _ k)) (up_to x k q)))
        (λ x l t. both (mo h x w) _ (in_front x t) (or_left (holds g.placed x) _ (left (holds g.placed x) _ t)))

    -- and the places of the other open writes are those in the graph with w placed
    place_others : (u : ℕ) → w < u → place_of g h u ≡ place_of (put v) h u
    place_others u l = count_same (length g.events) (λ x. mo h x u && there_before g u x) (λ x. mo h x u && there_before (put v) u x)
        (λ x k t. and_or_more (mo h x u) (holds g.placed x) (holds (insert_after v w g.placed) x) (ltb x u)
        (λ q. or_left (holds (insert_after v w g.placed) x) _ (holds_insert v w g.placed x q)) t)
        (λ x k t. and_or_more (mo h x u) (holds (insert_after v w g.placed) x) (holds g.placed x) (ltb x u)
        (λ q. elim (insert_holds v w g.placed x q) [
          | inl z ↦ or_left (holds g.placed x) _ z
          | inr e ↦ or_right (holds g.placed x) _ (lt→ltb x u (omega arith))
        ]) t)

  -- where no place of w serves, nothing does
  pub nowhere : (m : Meaning) → ((v : ℕ) → Fits v → Fillable m n (put v) → ⊥) → Fillable m n g → ⊥
  nowhere m none (h, c, serves) = let r = somewhere g h sg n c w from opened in none r.0 r.1 (h, r.2, serves)

  -- an earlier place is smaller
  front_less : (v u : ℕ) → Fits u → T (precedes g.placed v u) → count (length g.events) (front v) < count (length g.events) (front u)
  front_less v u fit k = count_less (length g.events) (front v) (front u)
      (λ x l t.
      let at = right (holds g.placed x) _ t in
      both (holds g.placed x) _ (left (holds g.placed x) _ t) (both (same_location g x w) _ (left (same_location g x w) _ at)
      (or_right (eqb x u) _ (elim (either (eqb x v) (precedes g.placed x v) (right (same_location g x w) _ at)) [
        | inl e ↦ subst (λ y. T (precedes g.placed y u)) (sym (eqb→eq x v e)) k
        | inr z ↦ precedes_trans g.placed x v u sg.placed_once z k
      ]))))
      u (placed_among g sg u (stands u fit))
      (both (holds g.placed u) _ (stands u fit) (both (same_location g u w) _ (near u fit) (or_left (eqb u u) _ (eqb_refl u))))
      (λ t. elim (either (eqb u v) (precedes g.placed u v) (right (same_location g u w) _ (right (holds g.placed u) _ t))) [
        | inl e ↦ never_before_itself g.placed v sg.placed_once (subst (λ y. T (precedes g.placed v y)) (eqb→eq u v e) k)
        | inr z ↦ precedes_one_way g.placed v u sg.placed_once k z
      ])

  still_open : (v x : ℕ) → T (is_open g x) → (x ≡ w → ⊥) → T (is_open (put v) x)
  still_open v x o ne =
      both (is_write (label_of g x)) _ (left (is_write (label_of g x)) _ o)
      (no (holds (insert_after v w g.placed) x) (λ k. elim (insert_holds v w g.placed x k) [
        | inl z ↦ yes_no (holds g.placed x) (right (is_write (label_of g x)) _ o) z
        | inr e ↦ ne (sym e)
      ]))

  pub was_open : (v x : ℕ) → T (is_open (put v) x) → T (is_open g x)
  was_open v x o =
      both (is_write (label_of g x)) _ (left (is_write (label_of g x)) _ o)
      (no (holds g.placed x) (λ k. yes_no (holds (insert_after v w g.placed) x) (right (is_write (label_of g x)) _ o) (holds_insert v w g.placed x k)))

  pub not_open : (v : ℕ) → Fits v → T (is_open (put v) w) → ⊥
  not_open v fit o = yes_no (holds (insert_after v w g.placed) w) (right (is_write (label_of g w)) _ o) (insert_holds_new v w g.placed (stands v fit))

  later_open : (v x : ℕ) → Fits v → n ≤ x → T (is_open (put v) x) → w < x
  later_open v x fit l o = elim (cases_eq x w) [
    | inl e ↦ absurd (not_open v fit (subst (λ y. T (is_open (put v) y)) e o))
    | inr ne ↦ let at_least_lem = lowest x l (was_open v x o) in omega arith
  ]

  -- the places up to x are the same, and that of x is not larger
  abbrev NotLarger : Content → Content → Type 0
  NotLarger h f = (x : ℕ) → n ≤ x → T (is_open g x) → ((u : ℕ) → n ≤ u → u < x → T (is_open g u) → place_of g h u ≡ place_of g f u) → place_of g h x ≤ place_of g f x

  -- two fillings with w after the same write
  alike : (m : Meaning) (v : ℕ) (h f : Content) → Fits v → FilledFirst m n (put v) h → Filling n (put v) f → Serves m f → NotLarger h f
  alike m v h f fit best c serves x l o equal = elim (cases_eq x w) [
    | inl e ↦ subst (λ y. place_of g h y ≤ place_of g f y) (sym e) (omega (arith, place_front v fit h best.fills, place_front v fit f c))
    | inr ne ↦
        let later : w < x = omega (arith, lowest x l o) in
        let least = best.first f c serves x l (still_open v x o ne) (λ u k b q.
        let after = later_open v u fit k q in
        sym (place_others v fit h best.fills u after) ∙ equal u k b (was_open v u q) ∙ place_others v fit f c u after) in
        omega (arith, place_others v fit h best.fills x later, place_others v fit f c x later)
  ]

  -- and with w after a later one
  larger : (v u : ℕ) (h f : Content) → Fits v → Fits u → Filling n (put v) h → Filling n (put u) f → T (precedes g.placed v u) → NotLarger h f
  larger v u h f fv fu c d k x l o equal =
      let less = front_less v u fu k in
      let a = place_front v fv h c in
      let b = place_front u fu f d in
      elim (cases_eq x w) [
        | inl e ↦ subst (λ y. place_of g h y ≤ place_of g f y) (sym e) (omega arith)
        | inr ne ↦ absurd (omega (arith, equal w from (omega (arith, lowest x l o)) opened))
      ]

  -- the first place at which some filling serves
  pub first_place : (m : Meaning) (v : ℕ) (h : Content) → Fits v → ((u : ℕ) → Fits u → T (precedes g.placed u v) → Fillable m n (put u) → ⊥) → FilledFirst m n (put v) h → FilledFirst m n g h
  first_place m v h fit none best = record {
    fills = above v fit h best.fills;
    serves = best.serves;
    first = λ f c serves x l o equal.
        let r = somewhere g f sg n c w from opened in
        elim (cases_eq r.0 v) [
          | inl e ↦ alike m v h f fit best (subst (λ y. Filling n (put y) f) e r.2) serves x l o equal
          | inr ne ↦ elim (precedes_some_way g.placed r.0 v (stands r.0 r.1) (stands v fit) ne) [
            | inl z ↦ absurd (none r.0 r.1 z (f, r.2, serves))
            | inr z ↦ larger v r.0 h f fit r.1 best.fills r.2 z x l o equal
          ]
        ];
  }
