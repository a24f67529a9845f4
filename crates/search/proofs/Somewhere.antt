-- Every filling has an open write directly after some placed write of its location.
use Rattle.std.proofs.Common.{◌≡◌, ℕ, ◌<◌, ◌≤◌, Bool, ◌&&◌, T, List, get_or, Some, None, sym, refl, subst, inl, inr, arith, le→leb}
use lib.Dec.{eqb_refl}
use Rattle.std.proofs.lemmas.Bool.{cases_lt}
use Rattle.event.specs.declared.event.Label.{Label}
use Rattle.event.specs.declared.event.Label.TheVariants.{Read, Write, Update, Fence}
use Rattle.event.specs.declared.event.Event.{Event}
use Rattle.event.specs.Labels.{no_event, agree, is_write, location, one_location, initial_write}
use Rattle.execution.specs.Lists.{holds, precedes, insert_after}
use Rattle.execution.specs.Content.{Content, label_of, same_location, is_open}
use Rattle.execution.specs.Sound.{Sound}
use Rattle.execution.specs.Entries.{denial, entered, place}
use Rattle.execution.proofs.Tests.{both, left, right, yes_no}
use Rattle.execution.proofs.Lists.{precedes_second}
use Rattle.execution.proofs.Among.{write_among}
use Rattle.verdict.specs.Fillings.{Filling}
use Rattle.verdict.proofs.Lists.{or_right, precedes_one_way, precedes_some_way, precedes_trans, never_before_itself}
use Rattle.verdict.proofs.Reading.{one_location_same, one_location_swap}
use Rattle.verdict.proofs.Inserting.{insert_precedes, some_before, before_some, Last, find_last}
use Rattle.search.proofs.Fits.{fits, due_with, due_without}

located : (l : Label) → T (is_write l) → (x : ℕ) × (location l ≡ Some x)
located (Read l v m) h = elim h [ ]
located (Write l v m) h = (l, refl)
located (Update l b a m) h = (l, refl)
located (Fence m) h = elim h [ ]

initial_there : (l : Label) (x : ℕ) → location l ≡ Some x → T (one_location (initial_write x).label l)
initial_there l x e = subst (λ o. T (agree (Some x) o)) (sym e) (eqb_refl x)

module _ (g h : Content) (sg : Sound g) (n : ℕ) (c : Filling n g h) (w : ℕ) (from : n ≤ w) (opened : T (is_open g w)) where
  writes : T (is_write (label_of g w))
  writes = left (is_write (label_of g w)) _ opened

  unplaced : T (holds g.placed w) → ⊥
  unplaced = yes_no (holds g.placed w) (right (is_write (label_of g w)) _ opened)

  abbrev before_it : ℕ → Bool
  before_it v = holds g.placed v && same_location g v w

  into_h : (a b : ℕ) → T (same_location g a b) → T (same_location h a b)
  into_h a b = subst (λ (es : List Event). T (one_location (get_or es a no_event).label (get_or es b no_event).label)) (sym c.events)

  keeps : (a b : ℕ) → T (same_location g a b) → T (precedes g.placed a b) → T (precedes h.placed a b)
  keeps a b s k = right (same_location h a b) _ (c.extends a b (both (same_location g a b) _ s k))

  in_h : T (holds h.placed w)
  in_h =
      c.full w (subst (λ (es : List Event). T (is_write (get_or es w no_event).label)) (sym c.events) writes)
      (or_right (holds g.placed w) _ (le→leb n w from))

  -- the initial write of w's location
  abbrev first : ℕ
  first = (located (label_of g w) writes).0

  first_here : first < g.locations
  first_here = elim (cases_lt w g.locations) [
    | inl l ↦ absurd (unplaced (sg.initial_placed w l))
    | inr l ↦ (sg.recorded w l (write_among g w writes)).its_location first (located (label_of g w) writes).1
  ]

  first_there : T (same_location g first w)
  first_there =
      subst (λ (e : Event). T (one_location e.label (label_of g w))) (sym (sg.initial_writes first first_here))
      (initial_there (label_of g w) first (located (label_of g w) writes).1)

  start : T (some_before before_it h.placed w)
  start =
      before_some before_it h.placed w first (both (holds g.placed first) _ (sg.initial_placed first first_here) first_there)
      (c.sound.initial_first first w (omega (arith, c.locations, first_here)) in_h (into_h first w first_there)
      (λ e. unplaced (subst (λ x. T (holds g.placed x)) e (sg.initial_placed first first_here))))

  -- the last placed write of its location that stands before w in h
  found : (v : ℕ) × Last before_it h.placed w v
  found = find_last before_it h.placed w start

  abbrev v : ℕ
  v = found.0

  standing : T (holds g.placed v)
  standing = left (holds g.placed v) _ found.1.passes

  there : T (same_location g v w)
  there = right (holds g.placed v) _ found.1.passes

  -- what stands after v in g stands after w in h
  after_it : (b : ℕ) → T (same_location g w b) → T (precedes g.placed v b) → T (precedes h.placed w b)
  after_it b s k = elim (precedes_some_way h.placed w b in_h (precedes_second h.placed v b later) (λ e. unplaced (subst (λ x. T (holds g.placed x)) (sym e) (precedes_second g.placed v b k)))) [
    | inl q ↦ q
    | inr q ↦ absurd (elim (found.1.last b (both (holds g.placed b) _ (precedes_second g.placed v b k) near) q) [
      | inl e ↦ never_before_itself h.placed v c.sound.placed_once (subst (λ x. T (precedes h.placed v x)) e later)
      | inr z ↦ precedes_one_way h.placed v b c.sound.placed_once later z
    ])
  ]
    where
      near : T (same_location g b w)
      near = one_location_swap (label_of g w) (label_of g b) s

      later : T (precedes h.placed v b)
      later = keeps v b (one_location_same (label_of g v) (label_of g b) (label_of g w) there near) k

  ordered : (a b : ℕ) → T (same_location g a b) → T (precedes (insert_after v w g.placed) a b) → T (precedes h.placed a b)
  ordered a b s k = elim (insert_precedes v w g.placed a b sg.placed_once unplaced k) [
    | inl q ↦ keeps a b s q
    | inr o ↦ elim o [
      | inl q ↦ subst (λ x. T (precedes h.placed a x)) (sym q.0) (elim q.1 [
        | inl e ↦ subst (λ x. T (precedes h.placed x w)) (sym e) found.1.before
        | inr z ↦
            let near = one_location_same (label_of g a) (label_of g v) (label_of g w) (subst (λ x. T (same_location g a x)) q.0 s) there in
            precedes_trans h.placed a v w c.sound.placed_once (keeps a v near z) found.1.before
      ])
      | inr q ↦ subst (λ x. T (precedes h.placed x b)) (sym q.0) (after_it b (subst (λ x. T (same_location g x b)) q.0 s) q.1)
    ]
  ]

  -- so every filling of g is one of g with w placed
  pub somewhere : (v : ℕ) × (denial g (place w v) ≡ None) × Filling n (entered g (place w v)) h
  somewhere = (
    v,
    fits g sg w v writes there unplaced standing,
    record {
      threads = c.threads;
      locations = c.locations;
      events = c.events;
      sources = c.sources;
      sound = c.sound;
      full = λ x t d. c.full x t (due_without g n w v from x d);
      only = λ x k. due_with g n w v from x (c.only x k);
      extends = λ a b k. both (same_location h a b) _ (into_h a b (left (same_location g a b) _ k)) (ordered a b (left (same_location g a b) _ k) (right (same_location g a b) _ k));
    },
  )
