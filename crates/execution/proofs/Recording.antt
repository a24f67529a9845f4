-- A recorded event: the graph stays sound, and only grows.
use Rattle.std.proofs.Common.{◌≡◌, ℕ, zero, suc, ◌+◌, ◌<◌, ◌≤◌, not, ◌||◌, T, ltb, List, [], ◌∷◌, ◌++◌, length, get_or, Some, None, Option, sym, refl, ap, ◌∙◌, subst, ap₂, inl, inr, arith, ltb→lt, length-append}
use lib.ListN.{get_or-append}
use lib.Seq.{get_or-append_seam}
use Rattle.std.proofs.lemmas.Bool.{cases_lt}
use Rattle.event.specs.declared.event.Kind.{Kind}
use Rattle.event.specs.declared.event.Kind.TheVariants.{Read as a_read, Write as a_write, Update as an_update, Fence as a_fence}
use Rattle.event.specs.declared.event.Arguments.{Arguments}
use Rattle.event.specs.declared.event.Label.{Label}
use Rattle.event.specs.declared.event.Event.{Event}
use Rattle.event.specs.Labels.{no_event, agree, is_read, is_write, location, value_read, value_written, kind_of, mode_of, mode_number, numbered_mode, allows, accesses, labelled, one_location}
use Rattle.execution.specs.Lists.{precedes}
use Rattle.execution.specs.Content.{Content, label_of, same_location, rf}
use Rattle.execution.specs.Sound.{Sound, Within, Recorded, Linked}
use Rattle.execution.specs.Entries.{denial, entered, record_event}
use Rattle.execution.proofs.Tests.{both, left, right}
use Rattle.execution.proofs.Among.{write_among, read_among, link_among, placed_among, mo_among}
use Rattle.execution.proofs.Denied.{Records, records}

-- one more event with no source links nothing
padded : (ss : List (Option ℕ)) (r : ℕ) → get_or (ss ++ (None ∷ [])) r None ≡ get_or ss r None
padded [] zero = refl
padded [] (suc r) = refl
padded (s ∷ ss) zero = refl
padded (s ∷ ss) (suc r) = padded ss r

its_location : (kind : Kind) (x : Arguments) (n l : ℕ) → T (not (accesses kind) || ltb x.location n) → location (labelled kind x) ≡ Some l → l < n
its_location a_read x n l h e = let k = ltb→lt x.location n h in let i : x.location ≡ l = cc in omega arith
its_location a_write x n l h e = let k = ltb→lt x.location n h in let i : x.location ≡ l = cc in omega arith
its_location an_update x n l h e = let k = ltb→lt x.location n h in let i : x.location ≡ l = cc in omega arith
its_location a_fence x n l h e = let z : ◌≡◌ {A = ℕ} 0 1 = cc in absurd (omega arith)

-- a mode that is allowed is the mode of its number
allowed_mode : (kind : Kind) (n : ℕ) → T (allows kind n) → T (allows kind (mode_number (numbered_mode n)))
allowed_mode a_read n h = grind arith
allowed_mode a_write n h = grind arith
allowed_mode an_update n h = grind arith
allowed_mode a_fence n h = grind arith

its_mode : (kind : Kind) (x : Arguments) → T (allows kind x.mode) → T (allows (kind_of (labelled kind x)) (mode_number (mode_of (labelled kind x))))
its_mode a_read x h = allowed_mode a_read x.mode h
its_mode a_write x h = allowed_mode a_write x.mode h
its_mode an_update x h = allowed_mode an_update x.mode h
its_mode a_fence x h = allowed_mode a_fence x.mode h

module _ (g : Content) (sg : Sound g) (kind : Kind) (x : Arguments) (fits : denial g (record_event kind x) ≡ None) where
  fine : Records g kind x
  fine = records g kind x fits

  abbrev new : Event
  new = record { thread = x.thread; label = labelled kind x }

  abbrev more : Content
  more = entered g (record_event kind x)

  old : (a : ℕ) → a < length g.events → get_or g.events a no_event ≡ get_or more.events a no_event
  old a l = sym (get_or-append g.events (new ∷ []) no_event a l)

  old_label : (a : ℕ) → a < length g.events → label_of g a ≡ label_of more a
  old_label a l = ap (λ (e : Event). e.label) (old a l)

  old_location : (a b : ℕ) → a < length g.events → b < length g.events → same_location g a b ≡ same_location more a b
  old_location a b l k = ap₂ one_location (old_label a l) (old_label b k)

  pub record_within : Within g more
  record_within = record {
    threads = refl;
    locations = refl;
    count = omega (arith, length-append g.events (new ∷ []));
    events = old;
    links = λ w r h. subst (λ s. T (agree s (Some w))) (sym (get_or-append g.sources (None ∷ []) None r (link_among g w r h))) h;
    order = λ a b h. let n = mo_among g sg a b h in both (same_location more a b) (precedes g.placed a b) (subst T (old_location a b n.0 n.1) (left (same_location g a b) (precedes g.placed a b) h)) (right (same_location g a b) (precedes g.placed a b) h);
  }

  old_link : (w r : ℕ) → T (rf more w r) → T (rf g w r)
  old_link w r h = subst (λ s. T (agree s (Some w))) (padded g.sources r) h

  old_recorded : (a : ℕ) → a < length g.events → Recorded g a → Recorded more a
  old_recorded a l k = record {
    some_thread = subst (λ (e : Event). 1 ≤ e.thread) (old a l) k.some_thread;
    its_thread = subst (λ (e : Event). e.thread ≤ g.threads) (old a l) k.its_thread;
    its_location = subst (λ (e : Event). (l : ℕ) → location e.label ≡ Some l → l < g.locations) (old a l) k.its_location;
    its_mode = subst (λ (e : Event). T (allows (kind_of e.label) (mode_number (mode_of e.label)))) (old a l) k.its_mode;
  }

  new_recorded : (a : ℕ) → a ≡ length g.events → Recorded more a
  new_recorded a i = record {
    some_thread = subst (λ (e : Event). 1 ≤ e.thread) here fine.some_thread;
    its_thread = subst (λ (e : Event). e.thread ≤ g.threads) here fine.its_thread;
    its_location = subst (λ (e : Event). (l : ℕ) → location e.label ≡ Some l → l < g.locations) here (λ l e. its_location kind x g.locations l fine.its_location e);
    its_mode = subst (λ (e : Event). T (allows (kind_of e.label) (mode_number (mode_of e.label)))) here (its_mode kind x fine.its_mode);
  }
    where
      here : new ≡ get_or more.events a no_event
      here = sym (rw i (get_or-append_seam g.events new [] no_event))

  old_linked : (w r : ℕ) → Linked g w r → Linked more w r
  old_linked w r k = record {
    reads = subst (λ l. T (is_read l)) (old_label r m) k.reads;
    writes = subst (λ l. T (is_write l)) (old_label w n) k.writes;
    there = subst T (old_location w r n m) k.there;
    value = subst T (ap₂ (λ (a b : Label). agree (value_written a) (value_read b)) (old_label w n) (old_label r m)) k.value;
  }
    where
      m : r < length g.events
      m = read_among g r k.reads

      n : w < length g.events
      n = write_among g w k.writes

  pub record_sound : Sound more
  record_sound = record {
    some_thread = sg.some_thread;
    few_threads = sg.few_threads;
    some_location = sg.some_location;
    few_locations = sg.few_locations;
    few_events = omega (arith, length-append g.events (new ∷ []), fine.room);
    opened = omega (arith, sg.opened, length-append g.events (new ∷ []));
    aligned = simp length-append (ap (λ n. n + 1) sg.aligned);
    initial_writes = λ l k. sym (old l (omega (arith, sg.opened))) ∙ sg.initial_writes l k;
    recorded = λ a l k. elim (cases_lt a (length g.events)) [ inl b ↦ old_recorded a b (sg.recorded a l b) | inr b ↦ new_recorded a (omega (arith, length-append g.events (new ∷ []))) ];
    linked = λ w r h. old_linked w r (sg.linked w r (old_link w r h));
    placed_writes = λ w h. subst (λ l. T (is_write l)) (old_label w (placed_among g sg w h)) (sg.placed_writes w h);
    placed_once = sg.placed_once;
    initial_placed = sg.initial_placed;
    initial_first = λ l w k h s n. sg.initial_first l w k h (subst T (sym (old_location l w (omega (arith, sg.opened)) (placed_among g sg w h))) s) n;
  }
