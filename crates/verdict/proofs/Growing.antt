-- Graphs within one another, and the restriction of a later graph's placements to an earlier graph's writes.
use Rattle.std.proofs.Common.{◌≡◌, ℕ, ◌<◌, Bool, T, ltb, List, length, get_or, Some, None, filter, sym, refl, ap, ◌∙◌, subst, ap₂, arith, ltb→lt, lt→ltb}
use Rattle.event.specs.declared.event.Event.{Event}
use Rattle.event.specs.Labels.{no_event, agree, is_write, one_location}
use Rattle.execution.specs.Lists.{holds, precedes}
use Rattle.execution.specs.Content.{Content, label_of, same_location}
use Rattle.execution.specs.Sound.{Sound, Within}
use Rattle.execution.proofs.Tests.{both, left, right}
use Rattle.execution.proofs.Lists.{precedes_first, precedes_second, kept_holds, kept_passes, kept_distinct}
use Rattle.execution.proofs.Among.{write_among, mo_among}
use Rattle.cycles.proofs.Walks.{larger_keeps_cycles}
use Rattle.cycles.specs.Cycles.{Cycle}
use Rattle.model.specs.Meaning.{Meaning, Rules, Over}
use Rattle.verdict.specs.Completions.{Completion, Allowed}
use Rattle.verdict.proofs.Lists.{holds_kept, kept_precedes, precedes_kept}

pub label_within : (g h : Content) → Within g h → (a : ℕ) → a < length g.events → label_of g a ≡ label_of h a
label_within g h i a l = ap (λ (e : Event). e.label) (i.events a l)

pub location_within : (g h : Content) → Within g h → (a b : ℕ) → a < length g.events → b < length g.events → same_location g a b ≡ same_location h a b
location_within g h i a b l k = ap₂ one_location (label_within g h i a l) (label_within g h i b k)

pub within_trans : (f g h : Content) → Within f g → Within g h → Within f h
within_trans f g h i j = record {
  threads = i.threads ∙ j.threads;
  locations = i.locations ∙ j.locations;
  count = omega (arith, i.count, j.count);
  events = λ a l. i.events a l ∙ j.events a (omega (arith, i.count));
  links = λ w r k. j.links w r (i.links w r k);
  order = λ a b k. j.order a b (i.order a b k);
}

-- a graph is within each of its completions
pub within_completion : (g h : Content) → Completion g h → Within g h
within_completion g h c = record {
  threads = sym c.threads;
  locations = sym c.locations;
  count = omega (arith, ap length c.events);
  events = λ a l. ap (λ (es : List Event). get_or es a no_event) (sym c.events);
  links = λ w r k. subst (λ ss. T (agree (get_or ss r None) (Some w))) (sym c.sources) k;
  order = c.extends;
}

-- g with the placements that h has of g's events
abbrev pub restrict : Content → Content → Content
restrict g h = record { threads = g.threads; locations = g.locations; events = g.events; sources = g.sources; placed = filter (λ w. ltb w (length g.events)) h.placed }

module _ (g h : Content) (sg : Sound g) (sh : Sound h) (i : Within g h) where
  abbrev early : ℕ → Bool
  early w = ltb w (length g.events)

  in_h : (w : ℕ) → T (holds (filter early h.placed) w) → T (holds h.placed w)
  in_h w k = kept_holds early h.placed w k

  is_early : (w : ℕ) → T (holds (filter early h.placed) w) → w < length g.events
  is_early w k = ltb→lt w (length g.events) (kept_passes early h.placed w k)

  restrict_sound : Sound (restrict g h)
  restrict_sound = record {
    some_thread = sg.some_thread;
    few_threads = sg.few_threads;
    some_location = sg.some_location;
    few_locations = sg.few_locations;
    few_events = sg.few_events;
    opened = sg.opened;
    aligned = sg.aligned;
    initial_writes = sg.initial_writes;
    recorded = λ a l k. let r = sg.recorded a l k in record { some_thread = r.some_thread; its_thread = r.its_thread; its_location = r.its_location; its_mode = r.its_mode };
    linked = λ w r k. let s = sg.linked w r k in record { reads = s.reads; writes = s.writes; there = s.there; value = s.value };
    placed_writes = λ w k. subst (λ l. T (is_write l)) (sym (label_within g h i w (is_early w k))) (sh.placed_writes w (in_h w k));
    placed_once = kept_distinct early h.placed sh.placed_once;
    initial_placed = λ l k. holds_kept early h.placed l (sh.initial_placed l (omega (arith, i.locations))) (lt→ltb l (length g.events) (omega (arith, sg.opened)));
    initial_first = λ l w k p s n. precedes_kept early h.placed l w
        (sh.initial_first l w (omega (arith, i.locations)) (in_h w p) (subst T (location_within g h i l w (omega (arith, sg.opened)) (is_early w p)) s) n)
        (lt→ltb l (length g.events) (omega (arith, sg.opened)))
        (kept_passes early h.placed w p);
  }

  restrict_full : ((w : ℕ) → T (is_write (label_of h w)) → T (holds h.placed w)) → Completion g (restrict g h)
  restrict_full full = record {
    threads = refl;
    locations = refl;
    events = refl;
    sources = refl;
    sound = restrict_sound;
    full = λ w k.
        let l : w < length g.events = write_among g w k in
        holds_kept early h.placed w (full w (subst (λ x. T (is_write x)) (label_within g h i w l) k)) (lt→ltb w (length g.events) l);
    extends = λ a b k.
        let n = mo_among g sg a b k in
        both (same_location g a b) (precedes (filter early h.placed) a b)
        (left (same_location g a b) (precedes g.placed a b) k)
        (precedes_kept early h.placed a b
        (right (same_location h a b) (precedes h.placed a b) (i.order a b k))
        (lt→ltb a (length g.events) n.0) (lt→ltb b (length g.events) n.1));
  }

  restrict_within : Within (restrict g h) h
  restrict_within = record {
    threads = i.threads;
    locations = i.locations;
    count = i.count;
    events = i.events;
    links = i.links;
    order = λ a b k.
        let p : T (precedes (filter early h.placed) a b) = right (same_location g a b) (precedes (filter early h.placed) a b) k in
        let first = is_early a (precedes_first (filter early h.placed) a b p) in
        let second = is_early b (precedes_second (filter early h.placed) a b p) in
        both (same_location h a b) (precedes h.placed a b)
        (subst T (location_within g h i a b first second) (left (same_location g a b) (precedes (filter early h.placed) a b) k))
        (kept_precedes early h.placed a b p);
  }

-- what a larger graph allows a pile, a smaller one allows what is below
pub allowed_below : (g h : Content) (upper lower : Meaning) → Sound g → Sound h → Within g h → Rules lower → Over upper lower → Allowed upper h → Allowed lower g
allowed_below g h upper lower sg sh i rules over (f, c, serves) = (
  restrict g f,
  restrict_full g f sg c.sound j c.full,
  λ k l xs round. serves k (omega (arith, over.as_many)) xs (larger_keeps_cycles (lower.pairs (restrict g f) k) (upper.pairs f k)
      (λ x y p. over.keeps f c.sound k x y (rules.growth (restrict g f) f (restrict_sound g f sg c.sound j) c.sound (restrict_within g f sg c.sound j) k x y p)) xs round),
)
  where
    j : Within g f
    j = within_trans g h f i (within_completion h f c)

-- a cycle of the placements alone forbids
pub cycle_forbids : (g : Content) (m : Meaning) → Sound g → Rules m → (k : ℕ) → k < m.orders → (xs : List ℕ) → Cycle (m.pairs g k) xs → Allowed m g → ⊥
cycle_forbids g m s rules k l xs round (h, c, serves) =
    serves k l xs (larger_keeps_cycles (m.pairs g k) (m.pairs h k) (rules.growth g h s c.sound (within_completion g h c) k) xs round)
