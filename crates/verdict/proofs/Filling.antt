-- Fillings: how they lead to a full modification order, where they end, and that a write can be left out.
use Rattle.std.proofs.Common.{ℕ, ◌<◌, ◌≤◌, Bool, T, leb, List, length, get_or, Some, None, filter, sym, refl, ap, subst, inl, inr, arith, le→leb, leb→le}
use Rattle.event.specs.declared.event.Event.{Event}
use Rattle.event.specs.Labels.{no_event, agree, is_write}
use Rattle.execution.specs.Lists.{holds}
use Rattle.execution.specs.Content.{Content, label_of, same_location, is_open}
use Rattle.execution.specs.Sound.{Sound, Within}
use Rattle.execution.proofs.Tests.{both, left, right, either, no}
use Rattle.execution.proofs.Lists.{precedes_first, precedes_second, kept_holds, kept_passes, kept_distinct}
use Rattle.cycles.specs.Cycles.{Cycle}
use Rattle.cycles.proofs.Walks.{larger_keeps_cycles}
use Rattle.model.specs.Meaning.{Meaning, Rules, Serves}
use Rattle.verdict.specs.Completions.{Completion, Allowed}
use Rattle.verdict.specs.Places.{PlacedFirst}
use Rattle.verdict.specs.Fillings.{due, Filling, Fillable, FilledFirst}
use Rattle.verdict.proofs.Lists.{or_left, or_right, test, holds_kept, kept_precedes, precedes_kept}

-- from 0 on a filling is a completion
pub completion_filling : (g h : Content) → Completion g h → Filling 0 g h
completion_filling g h c = record {
  threads = c.threads;
  locations = c.locations;
  events = c.events;
  sources = c.sources;
  sound = c.sound;
  full = λ w t d. c.full w t;
  only = λ w k. or_right (holds g.placed w) (leb 0 w) (le→leb 0 w (omega arith));
  extends = c.extends;
}

pub filling_completion : (g h : Content) → Filling 0 g h → Completion g h
filling_completion g h c = record {
  threads = c.threads;
  locations = c.locations;
  events = c.events;
  sources = c.sources;
  sound = c.sound;
  full = λ w t. c.full w t (or_right (holds g.placed w) (leb 0 w) (le→leb 0 w (omega arith)));
  extends = c.extends;
}

pub filled_first_all : (m : Meaning) (g h : Content) → FilledFirst m 0 g h → PlacedFirst m g h
filled_first_all m g h p = record {
  completes = filling_completion g h p.fills;
  serves = p.serves;
  first = λ f c s w o equal. p.first f (completion_filling g f c) s w (omega arith) o (λ u l k i. equal u k i);
}

pub none_allowed : (m : Meaning) (g : Content) → (Fillable m 0 g → ⊥) → Allowed m g → ⊥
none_allowed m g none (h, c, serves) = none (h, completion_filling g h c, serves)

pub within_filling : (n : ℕ) (g h : Content) → Filling n g h → Within g h
within_filling n g h c = record {
  threads = sym c.threads;
  locations = sym c.locations;
  count = omega (arith, ap length c.events);
  events = λ a l. ap (λ (es : List Event). get_or es a no_event) (sym c.events);
  links = λ w r k. subst (λ ss. T (agree (get_or ss r None) (Some w))) (sym c.sources) k;
  order = c.extends;
}

-- a cycle of the placements ends it
pub cycle_ends : (m : Meaning) → Rules m → (n : ℕ) (g : Content) → Sound g → (k : ℕ) → k < m.orders → (xs : List ℕ) → Cycle (m.pairs g k) xs → Fillable m n g → ⊥
cycle_ends m rules n g s k l xs round (h, c, serves) =
    serves k l xs (larger_keeps_cycles (m.pairs g k) (m.pairs h k) (rules.growth g h s c.sound (within_filling n g h c) k) xs round)

-- with no open write from n on the graph is its own filling
pub nothing_left : (m : Meaning) (n : ℕ) (g : Content) → Sound g → ((w : ℕ) → n ≤ w → T (is_open g w) → ⊥) → Serves m g → FilledFirst m n g g
nothing_left m n g s none serves = record {
  fills = record {
    threads = refl;
    locations = refl;
    events = refl;
    sources = refl;
    sound = s;
    full = λ w t d. elim (test (holds g.placed w)) [
      | inl k ↦ k
      | inr k ↦ elim (either (holds g.placed w) (leb n w) d) [
        | inl j ↦ j
        | inr l ↦ absurd (none w (leb→le n w l) (both (is_write (label_of g w)) _ t (no (holds g.placed w) k)))
      ]
    ];
    only = λ w k. or_left (holds g.placed w) _ k;
    extends = λ a b k. k;
  };
  serves = serves;
  first = λ f c t w l o equal. absurd (none w l o);
}

-- h with only those of its placements that pass
abbrev pub thinned : (ℕ → Bool) → Content → Content
thinned p h = record { threads = h.threads; locations = h.locations; events = h.events; sources = h.sources; placed = filter p h.placed }

module _ (p : ℕ → Bool) (h : Content) (s : Sound h) (initials : (l : ℕ) → l < h.locations → T (p l)) where
  thinned_sound : Sound (thinned p h)
  thinned_sound = record {
    some_thread = s.some_thread;
    few_threads = s.few_threads;
    some_location = s.some_location;
    few_locations = s.few_locations;
    few_events = s.few_events;
    opened = s.opened;
    aligned = s.aligned;
    initial_writes = s.initial_writes;
    recorded = λ a l k. let r = s.recorded a l k in record { some_thread = r.some_thread; its_thread = r.its_thread; its_location = r.its_location; its_mode = r.its_mode };
    linked = λ w r k. let t = s.linked w r k in record { reads = t.reads; writes = t.writes; there = t.there; value = t.value };
    placed_writes = λ w k. s.placed_writes w (kept_holds p h.placed w k);
    placed_once = kept_distinct p h.placed s.placed_once;
    initial_placed = λ l k. holds_kept p h.placed l (s.initial_placed l k) (initials l k);
    initial_first = λ l w k j t n. precedes_kept p h.placed l w (s.initial_first l w k (kept_holds p h.placed w j) t n) (initials l k) (kept_passes p h.placed w j);
  }

  thinned_within : Within (thinned p h) h
  thinned_within = record {
    threads = refl;
    locations = refl;
    count = omega arith;
    events = λ a l. refl;
    links = λ w r k. k;
    order = λ a b k. both (same_location h a b) _ (left (same_location h a b) _ k) (kept_precedes p h.placed a b (right (same_location h a b) _ k));
  }

-- where no filling from k on serves, none from a lower number on does
pub left_out : (m : Meaning) → Rules m → (g : Content) → Sound g → (n k : ℕ) → n ≤ k → Fillable m n g → Fillable m k g
left_out m rules g sg n k le (h, c, serves) = (
  thinned p h,
  record {
    threads = c.threads;
    locations = c.locations;
    events = c.events;
    sources = c.sources;
    sound = sound;
    full = λ w t d. holds_kept p h.placed w (c.full w t (sooner w d)) d;
    only = λ w j. kept_passes p h.placed w j;
    extends = λ a b j.
        let pair = c.extends a b j in
        let order = right (same_location g a b) _ j in
        both (same_location h a b) _ (left (same_location h a b) _ pair)
        (precedes_kept p h.placed a b (right (same_location h a b) _ pair)
        (or_left (holds g.placed a) _ (precedes_first g.placed a b order)) (or_left (holds g.placed b) _ (precedes_second g.placed a b order)));
  },
  λ i l xs round. serves i l xs (larger_keeps_cycles (m.pairs (thinned p h) i) (m.pairs h i) (rules.growth (thinned p h) h sound c.sound (thinned_within p h c.sound initials) i) xs round),
)
  where
    p : ℕ → Bool
    p = due k g

    initials : (l : ℕ) → l < h.locations → T (due k g l)
    initials l j = or_left (holds g.placed l) _ (sg.initial_placed l (omega (arith, c.locations)))

    sound : Sound (thinned (due k g) h)
    sound = thinned_sound (due k g) h c.sound initials

    sooner : (w : ℕ) → T (due k g w) → T (due n g w)
    sooner w d = elim (either (holds g.placed w) (leb k w) d) [
      | inl j ↦ or_left (holds g.placed w) _ j
      | inr j ↦ or_right (holds g.placed w) _ (le→leb n w (omega (arith, leb→le k w j)))
    ]
