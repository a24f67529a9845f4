-- The next open write tried at every place, from the first on: the first that can be filled up is the one to show.
use Rattle.std.proofs.Common.{◌≡◌, ℕ, suc, ◌<◌, ◌≤◌, Bool, ◌&&◌, ◌||◌, T, eqb, ltb, leb, List, length, get_or, None, sym, ◌∙◌, subst, inl, inr, arith, le→leb, eqb→eq, ltb→lt, lt→ltb, leb→le}
use lib.Dec.{eqb_refl}
use Rattle.std.proofs.lemmas.Bool.{cases_eq}
use Rattle.event.specs.declared.event.Event.{Event}
use Rattle.event.specs.Labels.{no_event, is_write, one_location}
use Rattle.execution.specs.Lists.{holds, precedes, insert_after}
use Rattle.execution.specs.Content.{Content, label_of, same_location, is_open, mo}
use Rattle.execution.specs.Sound.{Sound}
use Rattle.execution.specs.Entries.{place, denial, entered}
use Rattle.execution.proofs.Tests.{both, left, right, either, no, yes_no, same}
use Rattle.execution.proofs.Lists.{precedes_first, precedes_second, holds_insert, insert_holds, insert_after_it, insert_after_all}
use Rattle.execution.proofs.Among.{write_among}
use Rattle.execution.proofs.Denied.{places}
use Rattle.execution.proofs.Placing.{place_within}
use Rattle.model.specs.Meaning.{Meaning, Serves}
use Rattle.verdict.specs.Numbers.{count}
use Rattle.verdict.specs.Places.{there_before, place_of}
use Rattle.verdict.specs.Fillings.{due, Filling, Fillable, FilledFirst}
use Rattle.verdict.proofs.Lists.{or_left, or_right, test, never_before_itself, precedes_one_way, precedes_some_way, precedes_trans}
use Rattle.verdict.proofs.Reading.{one_location_swap}
use Rattle.verdict.proofs.Counting.{count_less, count_same}
use Rattle.verdict.proofs.Inserting.{insert_holds_new, insert_before_rest}
use Rattle.verdict.proofs.Somewhere.{somewhere}

and_or_more : (a b c d : Bool) → (T b → T (c || d)) → T (a && (b || d)) → T (a && (c || d))
and_or_more a b c d f h = grind arith

-- w is the lowest open write of g from n on
module _ (n : ℕ) (g : Content) (sg : Sound g) (w : ℕ) (from : n ≤ w) (opened : T (is_open g w)) (lowest : (u : ℕ) → n ≤ u → T (is_open g u) → w ≤ u) where
  writes : T (is_write (label_of g w))
  writes = left (is_write (label_of g w)) _ opened

  -- up to v in the modification order
  abbrev front : ℕ → ℕ → Bool
  front v c = holds g.placed c && (same_location g c w && (eqb c v || precedes g.placed c v))

  still_open : (v x : ℕ) → T (is_open g x) → (x ≡ w → ⊥) → T (is_open (entered g (place w v)) x)
  still_open v x o apart =
      both (is_write (label_of g x)) _ (left (is_write (label_of g x)) _ o) (no (holds (insert_after v w g.placed) x) (λ k. elim (insert_holds v w g.placed x k) [
        | inl z ↦ yes_no (holds g.placed x) (right (is_write (label_of g x)) _ o) z
        | inr e ↦ apart (sym e)
      ]))

  was_open : (v x : ℕ) → T (is_open (entered g (place w v)) x) → T (is_open g x)
  was_open v x o =
      both (is_write (label_of g x)) _ (left (is_write (label_of g x)) _ o)
      (no (holds g.placed x) (λ k. yes_no (holds (insert_after v w g.placed) x) (right (is_write (label_of g x)) _ o) (holds_insert v w g.placed x k)))

  module _ (v : ℕ) (fits : denial g (place w v) ≡ None) where
    standing : T (holds g.placed v)
    standing = (places g w v fits).placed

    there : T (same_location g v w)
    there = (places g w v fits).there

    module _ (h : Content) (c : Filling (suc w) (entered g (place w v)) h) where
      -- a filling with w placed is one of g
      above : Filling n g h
      above = record {
        threads = c.threads;
        locations = c.locations;
        events = c.events;
        sources = c.sources;
        sound = c.sound;
        full = λ x t d. c.full x t (later_due x (subst (λ (es : List Event). T (is_write (get_or es x no_event).label)) c.events t) d);
        only = λ x k. elim (either (holds (insert_after v w g.placed) x) (leb (suc w) x) (c.only x k)) [
          | inl j ↦ elim (insert_holds v w g.placed x j) [
            | inl i ↦ or_left (holds g.placed x) _ i
            | inr e ↦ or_right (holds g.placed x) _ (le→leb n x (omega arith))
          ]
          | inr j ↦ or_right (holds g.placed x) _ (le→leb n x (omega (arith, leb→le (suc w) x j)))
        ];
        extends = λ a b k. c.extends a b ((place_within g sg w v fits).order a b k);
      }
        where
          later_due : (x : ℕ) → T (is_write (label_of g x)) → T (due n g x) → T (due (suc w) (entered g (place w v)) x)
          later_due x t d = elim (test (holds g.placed x)) [
            | inl j ↦ or_left (holds (insert_after v w g.placed) x) _ (holds_insert v w g.placed x j)
            | inr ne ↦ elim (cases_eq x w) [
              | inl e ↦ or_left (holds (insert_after v w g.placed) x) _ (subst (λ y. T (holds (insert_after v w g.placed) y)) (sym e) (insert_holds_new v w g.placed standing))
              | inr apart ↦ elim (either (holds g.placed x) (leb n x) d) [
                | inl j ↦ absurd (ne j)
                | inr l ↦
                    let least = lowest x (leb→le n x l) (both (is_write (label_of g x)) _ t (no (holds g.placed x) ne)) in
                    or_right (holds (insert_after v w g.placed) x) _ (le→leb (suc w) x (omega arith))
              ]
            ]
          ]

      in_g : (a b : ℕ) → T (same_location h a b) → T (same_location g a b)
      in_g a b k = subst (λ (es : List Event). T (one_location (get_or es a no_event).label (get_or es b no_event).label)) c.events k

      -- what stands before w in h, and is there before w, is placed in g
      placed_already : (x : ℕ) → T (mo h x w) → T (there_before g w x) → T (holds g.placed x)
      placed_already x k o = elim (test (holds g.placed x)) [
        | inl q ↦ q
        | inr q ↦ elim (either (holds g.placed x) (ltb x w) o) [
          | inl z ↦ z
          | inr z ↦
              let below = ltb→lt x w z in
              elim (either (holds (insert_after v w g.placed) x) (leb (suc w) x) (c.only x (precedes_first h.placed x w (right (same_location h x w) _ k)))) [
                | inl j ↦ elim (insert_holds v w g.placed x j) [ inl i ↦ i | inr e ↦ absurd (omega arith) ]
                | inr j ↦ let far = leb→le (suc w) x j in absurd (omega arith)
              ]
        ]
      ]

      up_to : (x : ℕ) → T (mo h x w) → T (holds g.placed x) → T (eqb x v || precedes g.placed x v)
      up_to x k q = elim (cases_eq x v) [
        | inl e ↦ or_left (eqb x v) _ (same x v e)
        | inr apart ↦ or_right (eqb x v) _ (elim (precedes_some_way g.placed x v q standing apart) [
          | inl z ↦ z
          | inr z ↦
              let near = one_location_swap (label_of g x) (label_of g w) (in_g x w (left (same_location h x w) _ k)) in
              let back = c.extends w x (both (same_location g w x) _ near (insert_before_rest v w g.placed x sg.placed_once z)) in
              absurd (precedes_one_way h.placed x w c.sound.placed_once (right (same_location h x w) _ k) (right (same_location h w x) _ back))
        ])
      ]

      in_front : (x : ℕ) → T (front v x) → T (mo h x w)
      in_front x k = c.extends x w (both (same_location g x w) _ near (elim (either (eqb x v) (precedes g.placed x v) (right (same_location g x w) _ (right (holds g.placed x) _ k))) [
        | inl e ↦ subst (λ y. T (precedes (insert_after v w g.placed) y w)) (sym (eqb→eq x v e)) (insert_after_it v w g.placed standing)
        | inr z ↦ insert_after_all v w g.placed x sg.placed_once z
      ]))
        where
          near : T (same_location g x w)
          near = left (same_location g x w) _ (right (holds g.placed x) _ k)

      -- the place of w tells v
      place_front : place_of g h w ≡ count (length g.events) (front v)
      place_front = count_same (length g.events) (λ x. mo h x w && there_before g w x) (front v)
          (λ x l t.
          let k = left (mo h x w) _ t in
          let q = placed_already x k (right (mo h x w) _ t) in
          both (holds g.placed x) _ q (both (same_location g x w) _ (in_g x w (left (same_location h x w) _ k)) (up_to x k q)))
          (λ x l t. both (mo h x w) _ (in_front x t) (or_left (holds g.placed x) _ (left (holds g.placed x) _ t)))

      -- the places of the other open writes are those in the graph with w placed
      place_others : (u : ℕ) → w < u → place_of g h u ≡ place_of (entered g (place w v)) h u
      place_others u l = count_same (length g.events) (λ x. mo h x u && there_before g u x) (λ x. mo h x u && there_before (entered g (place w v)) u x)
          (λ x k t. and_or_more (mo h x u) (holds g.placed x) (holds (insert_after v w g.placed) x) (ltb x u) (λ q. or_left (holds (insert_after v w g.placed) x) _ (holds_insert v w g.placed x q)) t)
          (λ x k t. and_or_more (mo h x u) (holds (insert_after v w g.placed) x) (holds g.placed x) (ltb x u)
          (λ q. elim (insert_holds v w g.placed x q) [ inl z ↦ or_left (holds g.placed x) _ z | inr e ↦ or_right (holds g.placed x) _ (lt→ltb x u (omega arith)) ]) t)

  -- no place of w serves: none does
  pub tried_all : (m : Meaning) → ((v : ℕ) → denial g (place w v) ≡ None → Fillable m (suc w) (entered g (place w v)) → ⊥) → Fillable m n g → ⊥
  tried_all m none (h, c, serves) = let r = somewhere n g sg w from opened lowest h c in none r.0 r.1 (h, r.2, serves)

  -- an earlier place is smaller
  front_less : (v u : ℕ) → denial g (place w v) ≡ None → denial g (place w u) ≡ None → T (precedes g.placed v u) → count (length g.events) (front v) < count (length g.events) (front u)
  front_less v u fv fu k = count_less (length g.events) (front v) (front u)
      (λ x l t.
      let held = left (holds g.placed x) _ t in
      let near = left (same_location g x w) _ (right (holds g.placed x) _ t) in
      both (holds g.placed x) _ held (both (same_location g x w) _ near (or_right (eqb x u) _ (elim (either (eqb x v) (precedes g.placed x v) (right (same_location g x w) _ (right (holds g.placed x) _ t))) [
        | inl e ↦ subst (λ y. T (precedes g.placed y u)) (sym (eqb→eq x v e)) k
        | inr z ↦ precedes_trans g.placed x v u sg.placed_once z k
      ]))))
      u
      (write_among g u (sg.placed_writes u (precedes_second g.placed v u k)))
      (both (holds g.placed u) _ (standing u fu) (both (same_location g u w) _ (there u fu) (or_left (eqb u u) _ (eqb_refl u))))
      (λ t. elim (either (eqb u v) (precedes g.placed u v) (right (same_location g u w) _ (right (holds g.placed u) _ t))) [
        | inl e ↦ never_before_itself g.placed v sg.placed_once (subst (λ y. T (precedes g.placed v y)) (eqb→eq u v e) k)
        | inr z ↦ precedes_one_way g.placed v u sg.placed_once k z
      ])

  -- two fillings with w after the same write
  alike : (m : Meaning) (v : ℕ) (h f : Content) → denial g (place w v) ≡ None → FilledFirst m (suc w) (entered g (place w v)) h → Filling (suc w) (entered g (place w v)) f → Serves m f → (x : ℕ) → n ≤ x → T (is_open g x)
      → ((u : ℕ) → n ≤ u → u < x → T (is_open g u) → place_of g h u ≡ place_of g f u) → place_of g h x ≤ place_of g f x
  alike m v h f fits best c serves x l o equal = elim (cases_eq x w) [
    | inl e ↦ subst (λ y. place_of g h y ≤ place_of g f y) (sym e) (omega (arith, place_front v fits h best.fills, place_front v fits f c))
    | inr apart ↦
        let later : w < x = omega (arith, lowest x l o) in
        omega (
          arith,
          place_others v fits h best.fills x later,
          place_others v fits f c x later,
          best.first f c serves x (omega arith) (still_open v x o apart) (λ u j k q.
              sym (place_others v fits h best.fills u (omega arith)) ∙ equal u (omega arith) k (was_open v u q) ∙ place_others v fits f c u (omega arith)),
        )
  ]

  -- and with w after a later one
  behind : (v u : ℕ) (h f : Content) → denial g (place w v) ≡ None → denial g (place w u) ≡ None → Filling (suc w) (entered g (place w v)) h → Filling (suc w) (entered g (place w u)) f → T (precedes g.placed v u) → (x : ℕ) → n ≤ x → T (is_open g x)
      → ((y : ℕ) → n ≤ y → y < x → T (is_open g y) → place_of g h y ≡ place_of g f y) → place_of g h x ≤ place_of g f x
  behind v u h f fv fu c d k x l o equal =
      let less = front_less v u fv fu k in
      let one = place_front v fv h c in
      let other = place_front u fu f d in
      elim (cases_eq x w) [
        | inl e ↦ subst (λ y. place_of g h y ≤ place_of g f y) (sym e) (omega arith)
        | inr apart ↦ absurd (omega (arith, equal w from (omega (arith, lowest x l o)) opened))
      ]

  -- the first place of w at which some filling serves
  pub first_found : (m : Meaning) (v : ℕ) (h : Content) → denial g (place w v) ≡ None
      → ((u : ℕ) → denial g (place w u) ≡ None → T (precedes g.placed u v) → Fillable m (suc w) (entered g (place w u)) → ⊥)
      → FilledFirst m (suc w) (entered g (place w v)) h → FilledFirst m n g h
  first_found m v h fits none best = record {
    fills = above v fits h best.fills;
    serves = best.serves;
    first = λ f c serves x l o equal.
        let r = somewhere n g sg w from opened lowest f c in
        elim (cases_eq r.0 v) [
          | inl e ↦ alike m v h f fits best (subst (λ y. Filling (suc w) (entered g (place w y)) f) e r.2) serves x l o equal
          | inr apart ↦ elim (precedes_some_way g.placed r.0 v (standing r.0 r.1) (standing v fits) apart) [
            | inl z ↦ absurd (none r.0 r.1 z (f, r.2, serves))
            | inr z ↦ behind v r.0 h f fits r.1 best.fills r.2 z x l o equal
          ]
        ];
  }
