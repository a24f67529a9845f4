-- A placed write: the graph stays sound, and only grows.
use Rattle.std.proofs.Common.{◌≡◌, ℕ, ◌<◌, T, None, sym, refl, subst, inl, inr, arith}
use Rattle.std.proofs.lemmas.Bool.{cases_eq}
use Rattle.event.specs.declared.event.Label.{Label}
use Rattle.event.specs.Labels.{is_write, one_location}
use Rattle.execution.specs.Lists.{precedes, insert_after}
use Rattle.execution.specs.Content.{Content, label_of, same_location}
use Rattle.execution.specs.Sound.{Sound, Within}
use Rattle.execution.specs.Entries.{denial, entered, place}
use Rattle.execution.proofs.Tests.{both, left, right}
use Rattle.execution.proofs.Lists.{holds_insert, insert_holds, insert_distinct, precedes_insert, insert_after_it, insert_after_all}
use Rattle.execution.proofs.Denied.{Places, places}

-- accesses of one location with a third access one location
one_location_same : (a b c : Label) → T (one_location a c) → T (one_location b c) → T (one_location a b)
one_location_same a b c h k = grind arith

module _ (g : Content) (sg : Sound g) (w v : ℕ) (fits : denial g (place w v) ≡ None) where
  fine : Places g w v
  fine = places g w v fits

  abbrev put : Content
  put = entered g (place w v)

  pub place_within : Within g put
  place_within = record {
    threads = refl;
    locations = refl;
    count = omega arith;
    events = λ a l. refl;
    links = λ a b h. h;
    order = λ a b h. both (same_location g a b) (precedes (insert_after v w g.placed) a b) (left (same_location g a b) _ h) (precedes_insert v w g.placed a b (right (same_location g a b) _ h));
  }

  initial_before : (l : ℕ) → l < g.locations → T (same_location g l w) → T (precedes (insert_after v w g.placed) l w)
  initial_before l k s = elim (cases_eq l v) [
    | inl i ↦ subst (λ x. T (precedes (insert_after v w g.placed) x w)) (sym i) (insert_after_it v w g.placed fine.placed)
    | inr n ↦ insert_after_all v w g.placed l sg.placed_once (sg.initial_first l v k fine.placed (one_location_same (label_of g l) (label_of g v) (label_of g w) s fine.there) n)
  ]

  pub place_sound : Sound put
  place_sound = record {
    some_thread = sg.some_thread;
    few_threads = sg.few_threads;
    some_location = sg.some_location;
    few_locations = sg.few_locations;
    few_events = sg.few_events;
    opened = sg.opened;
    aligned = sg.aligned;
    initial_writes = sg.initial_writes;
    recorded = λ a l k. record { some_thread = (sg.recorded a l k).some_thread; its_thread = (sg.recorded a l k).its_thread; its_location = (sg.recorded a l k).its_location; its_mode = (sg.recorded a l k).its_mode };
    linked = λ a r k. record { reads = (sg.linked a r k).reads; writes = (sg.linked a r k).writes; there = (sg.linked a r k).there; value = (sg.linked a r k).value };
    placed_writes = λ a h. elim (insert_holds v w g.placed a h) [ inl k ↦ sg.placed_writes a k | inr i ↦ subst (λ x. T (is_write (label_of g x))) i fine.writes ];
    placed_once = insert_distinct v w g.placed sg.placed_once fine.new;
    initial_placed = λ l k. holds_insert v w g.placed l (sg.initial_placed l k);
    initial_first = λ l a k h s n. elim (insert_holds v w g.placed a h) [
      | inl j ↦ precedes_insert v w g.placed l a (sg.initial_first l a k j s n)
      | inr i ↦ subst (λ x. T (precedes (insert_after v w g.placed) l x)) i (initial_before l k (subst (λ x. T (same_location g l x)) (sym i) s))
    ];
  }
