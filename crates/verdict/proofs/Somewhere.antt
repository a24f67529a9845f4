-- Every filling has the next open write directly after some placed write of its location.
use Rattle.std.proofs.Common.{◌≡◌, ℕ, suc, ◌<◌, ◌≤◌, Bool, true, false, not, ◌&&◌, T, leb, List, get_or, Some, None, Option, sym, refl, subst, inl, inr, arith, le→leb, lt→ltb, leb→le}
use lib.Dec.{eqb_refl}
use Rattle.std.proofs.lemmas.Bool.{cases_lt, cases_eq}
use Rattle.event.specs.declared.denial.Denial.{Denial}
use Rattle.event.specs.declared.denial.Denial.TheVariants.{Range, Kind as OtherKind, Site, Twice, Loose}
use Rattle.event.specs.declared.event.Label.{Label}
use Rattle.event.specs.declared.event.Label.TheVariants.{Read, Write, Update, Fence}
use Rattle.event.specs.declared.event.Event.{Event}
use Rattle.event.specs.Labels.{no_event, is_write, location, one_location, initial_write}
use Rattle.execution.specs.Lists.{holds, precedes, insert_after}
use Rattle.execution.specs.Content.{Content, label_of, same_location, is_open}
use Rattle.execution.specs.Sound.{Sound}
use Rattle.execution.specs.Entries.{place, denial, entered, stands}
use Rattle.event.specs.Denials.{unless}
use Rattle.execution.proofs.Tests.{both, left, right, either, no, yes_no}
use Rattle.execution.proofs.Lists.{precedes_second, holds_insert, insert_holds}
use Rattle.execution.proofs.Among.{write_among}
use Rattle.verdict.specs.Fillings.{due, Filling}
use Rattle.verdict.proofs.Lists.{or_left, or_right, test, never_before_itself, precedes_one_way, precedes_some_way, precedes_trans}
use Rattle.verdict.proofs.Reading.{one_location_same, one_location_swap}
use Rattle.verdict.proofs.Inserting.{insert_holds_new, insert_precedes, some_before, before_some, Last, find_last}

passing : (b : Bool) (d : Denial) (rest : Option Denial) → T b → rest ≡ None → unless b d rest ≡ None
passing true d rest p h = h
passing false d rest p h = elim p [ ]

-- nothing denies a write of g that is not placed its place after a placed one of its location
pub place_fits : (g : Content) → Sound g → (w v : ℕ) → T (is_open g w) → T (same_location g v w) → T (holds g.placed v) → denial g (place w v) ≡ None
place_fits g s w v o near placed =
    passing (stands g w) (Range 1) _ (lt→ltb w _ (write_among g w writes)) (
    passing (stands g v) (Range 2) _ (lt→ltb v _ (write_among g v (s.placed_writes v placed))) (
    passing (is_write (label_of g w)) (OtherKind 1) _ writes (
    passing (is_write (label_of g v)) (OtherKind 2) _ (s.placed_writes v placed) (
    passing (same_location g v w) Site _ near (
    passing (not (holds g.placed w)) Twice _ (right (is_write (label_of g w)) _ o) (
    passing (holds g.placed v) Loose _ placed refl))))))
  where
    writes : T (is_write (label_of g w))
    writes = left (is_write (label_of g w)) _ o

-- a write is at the location of the initial write of that location
initial_there : (l : Label) → T (is_write l) → (i : ℕ) × (location l ≡ Some i) × T (one_location (initial_write i).label l)
initial_there (Read l v m) h = elim h [ ]
initial_there (Write l v m) h = (l, refl, eqb_refl l)
initial_there (Update l b a m) h = (l, refl, eqb_refl l)
initial_there (Fence m) h = elim h [ ]

module _ (n : ℕ) (g : Content) (sg : Sound g) (w : ℕ) (from : n ≤ w) (opened : T (is_open g w)) (lowest : (u : ℕ) → n ≤ u → T (is_open g u) → w ≤ u) (h : Content) (c : Filling n g h) where
  writes : T (is_write (label_of g w))
  writes = left (is_write (label_of g w)) _ opened

  unplaced : T (holds g.placed w) → ⊥
  unplaced = yes_no (holds g.placed w) (right (is_write (label_of g w)) _ opened)

  abbrev before_it : ℕ → Bool
  before_it v = holds g.placed v && same_location g v w

  to_h : (a b : ℕ) → T (same_location g a b) → T (precedes g.placed a b) → T (precedes h.placed a b)
  to_h a b s k = right (same_location h a b) _ (c.extends a b (both (same_location g a b) _ s k))

  in_h : T (holds h.placed w)
  in_h =
      c.full w (subst (λ (es : List Event). T (is_write (get_or es w no_event).label)) (sym c.events) writes)
      (or_right (holds g.placed w) _ (le→leb n w from))

  -- the initial write of w's location
  initial : (i : ℕ) × (location (label_of g w) ≡ Some i) × T (one_location (initial_write i).label (label_of g w))
  initial = initial_there (label_of g w) writes

  abbrev first : ℕ
  first = initial.0

  first_here : first < g.locations
  first_here = elim (cases_lt w g.locations) [
    | inl l ↦ absurd (unplaced (sg.initial_placed w l))
    | inr l ↦ (sg.recorded w l (write_among g w writes)).its_location first initial.1
  ]

  first_there : T (same_location g first w)
  first_there = subst (λ (e : Event). T (one_location e.label (label_of g w))) (sym (sg.initial_writes first first_here)) initial.2

  start : T (some_before before_it h.placed w)
  start =
      before_some before_it h.placed w first (both (holds g.placed first) _ (sg.initial_placed first first_here) first_there)
      (c.sound.initial_first first w (omega (arith, c.locations, first_here)) in_h
      (subst (λ (es : List Event). T (one_location (get_or es first no_event).label (get_or es w no_event).label)) (sym c.events) first_there)
      (λ e. unplaced (subst (λ x. T (holds g.placed x)) e (sg.initial_placed first first_here))))

  found : (v : ℕ) × Last before_it h.placed w v
  found = find_last before_it h.placed w start

  abbrev v : ℕ
  v = found.0

  standing : T (holds g.placed v)
  standing = left (holds g.placed v) _ found.1.passes

  there : T (same_location g v w)
  there = right (holds g.placed v) _ found.1.passes

  -- what stands after v in g stands after w in h
  after_it : (b : ℕ) → T (same_location g w b) → T (precedes g.placed v b) → T (precedes h.placed w b)
  after_it b s k = elim (precedes_some_way h.placed w b in_h (precedes_second h.placed v b later) (λ e. unplaced (subst (λ x. T (holds g.placed x)) (sym e) (precedes_second g.placed v b k)))) [
    | inl q ↦ q
    | inr q ↦ absurd (elim (found.1.last b (both (holds g.placed b) _ (precedes_second g.placed v b k) near) q) [
      | inl e ↦ never_before_itself h.placed v c.sound.placed_once (subst (λ x. T (precedes h.placed v x)) e later)
      | inr z ↦ precedes_one_way h.placed v b c.sound.placed_once later z
    ])
  ]
    where
      near : T (same_location g b w)
      near = one_location_swap (label_of g w) (label_of g b) s

      later : T (precedes h.placed v b)
      later = to_h v b (one_location_same (label_of g v) (label_of g b) (label_of g w) there near) k

  ordered : (a b : ℕ) → T (same_location g a b) → T (precedes (insert_after v w g.placed) a b) → T (precedes h.placed a b)
  ordered a b s k = elim (insert_precedes v w g.placed a b sg.placed_once unplaced k) [
    | inl q ↦ to_h a b s q
    | inr o ↦ elim o [
      | inl q ↦ subst (λ x. T (precedes h.placed a x)) (sym q.0) (elim q.1 [
        | inl e ↦ subst (λ x. T (precedes h.placed x w)) (sym e) found.1.before
        | inr z ↦
            let near = one_location_same (label_of g a) (label_of g v) (label_of g w) (subst (λ x. T (same_location g a x)) q.0 s) there in
            precedes_trans h.placed a v w c.sound.placed_once (to_h a v near z) found.1.before
      ])
      | inr q ↦ subst (λ x. T (precedes h.placed x b)) (sym q.0) (after_it b (subst (λ x. T (same_location g x b)) q.0 s) q.1)
    ]
  ]

  -- what h has placed, g with w placed has, or it comes after w
  placed_next : (x : ℕ) → T (holds h.placed x) → T (due (suc w) (entered g (place w v)) x)
  placed_next x k = elim (test (holds g.placed x)) [
    | inl j ↦ or_left (holds (insert_after v w g.placed) x) _ (holds_insert v w g.placed x j)
    | inr ne ↦ elim (cases_eq x w) [
      | inl e ↦ or_left (holds (insert_after v w g.placed) x) _ (subst (λ y. T (holds (insert_after v w g.placed) y)) (sym e) (insert_holds_new v w g.placed standing))
      | inr apart ↦
          let later = lowest x (due_from ne (c.only x k)) (both (is_write (label_of g x)) _ (subst (λ (es : List Event). T (is_write (get_or es x no_event).label)) c.events (c.sound.placed_writes x k)) (no (holds g.placed x) ne)) in
          or_right (holds (insert_after v w g.placed) x) _ (le→leb (suc w) x (omega arith))
    ]
  ]
    where
      due_from : (T (holds g.placed x) → ⊥) → T (due n g x) → n ≤ x
      due_from ne d = elim (either (holds g.placed x) (leb n x) d) [ inl j ↦ absurd (ne j) | inr l ↦ leb→le n x l ]

  full_next : (x : ℕ) → T (is_write (label_of h x)) → T (due (suc w) (entered g (place w v)) x) → T (holds h.placed x)
  full_next x t d = elim (test (holds g.placed x)) [
    | inl j ↦ c.full x t (or_left (holds g.placed x) _ j)
    | inr ne ↦ elim (cases_lt x n) [
      | inr l ↦ c.full x t (or_right (holds g.placed x) _ (le→leb n x l))
      | inl l ↦ elim (either (holds (insert_after v w g.placed) x) (leb (suc w) x) d) [
        | inl j ↦ absurd (low ne l j)
        | inr j ↦ let far = leb→le (suc w) x j in absurd (omega arith)
      ]
    ]
  ]
    where
      low : (T (holds g.placed x) → ⊥) → x < n → T (holds (insert_after v w g.placed) x) → ⊥
      low ne l j = elim (insert_holds v w g.placed x j) [ inl k ↦ ne k | inr e ↦ omega arith ]

  -- so every filling of g is one of g with w placed
  pub somewhere : (v : ℕ) × (denial g (place w v) ≡ None) × Filling (suc w) (entered g (place w v)) h
  somewhere = (
    v,
    place_fits g sg w v opened there standing,
    record {
      threads = c.threads;
      locations = c.locations;
      events = c.events;
      sources = c.sources;
      sound = c.sound;
      full = full_next;
      only = placed_next;
      extends = λ a b k.
          both (same_location h a b) _
          (subst (λ (es : List Event). T (one_location (get_or es a no_event).label (get_or es b no_event).label)) (sym c.events) (left (same_location g a b) _ k))
          (ordered a b (left (same_location g a b) _ k) (right (same_location g a b) _ k));
    },
  )
