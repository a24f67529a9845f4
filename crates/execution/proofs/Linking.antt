-- A link: the graph stays sound, and only grows.
use Rattle.std.proofs.Common.{◌≡◌, ℕ, not, T, is_some, Some, None, Option, sym, refl, ◌∙◌, subst, inl, inr, arith, eqb→eq, length-set, get_or-set_other, get_or-set_same}
use Rattle.std.proofs.lemmas.Bool.{cases_eq}
use Rattle.event.specs.Labels.{agree}
use Rattle.execution.specs.Content.{Content, source_of, rf}
use Rattle.execution.specs.Sound.{Sound, Within, Linked}
use Rattle.execution.specs.Entries.{denial, entered, link}
use Rattle.execution.proofs.Denied.{Links, links}

module _ (g : Content) (sg : Sound g) (r w : ℕ) (fits : denial g (link r w) ≡ None) where
  fine : Links g r w
  fine = links g r w fits

  abbrev joined : Content
  joined = entered g (link r w)

  -- other reads keep their sources
  others : (q : ℕ) → (q ≡ r → ⊥) → source_of g q ≡ source_of joined q
  others q n = sym (get_or-set_other g.sources r q (Some w) None n)

  now_linked : source_of joined r ≡ Some w
  now_linked = get_or-set_same g.sources r (Some w) None (omega (arith, sg.aligned, fine.read_stands))

  unlinked : (o : Option ℕ) (v : ℕ) → T (not (is_some o)) → T (agree o (Some v)) → ⊥
  unlinked None v h k = k
  unlinked (Some x) v h k = h

  fresh : (v : ℕ) → T (rf g v r) → ⊥
  fresh v h = unlinked (source_of g r) v fine.fresh h

  pub link_within : Within g joined
  link_within = record {
    threads = refl;
    locations = refl;
    count = omega arith;
    events = λ a l. refl;
    links = λ v q h. elim (cases_eq q r) [ inl i ↦ absurd (fresh v (subst (λ x. T (rf g v x)) i h)) | inr n ↦ subst (λ o. T (agree o (Some v))) (others q n) h ];
    order = λ a b h. h;
  }

  new_link : (v : ℕ) → w ≡ v → Linked joined v r
  new_link v i = subst (λ x. Linked joined x r) i (record { reads = fine.reads; writes = fine.writes; there = fine.there; value = fine.value })

  old_link : (v q : ℕ) → Linked g v q → Linked joined v q
  old_link v q k = record { reads = k.reads; writes = k.writes; there = k.there; value = k.value }

  pub link_sound : Sound joined
  link_sound = record {
    some_thread = sg.some_thread;
    few_threads = sg.few_threads;
    some_location = sg.some_location;
    few_locations = sg.few_locations;
    few_events = sg.few_events;
    opened = sg.opened;
    aligned = length-set g.sources r (Some w) ∙ sg.aligned;
    initial_writes = sg.initial_writes;
    recorded = λ a l k. record { some_thread = (sg.recorded a l k).some_thread; its_thread = (sg.recorded a l k).its_thread; its_location = (sg.recorded a l k).its_location; its_mode = (sg.recorded a l k).its_mode };
    linked = λ v q h. elim (cases_eq q r) [
      | inl i ↦ subst (λ x. Linked joined v x) (sym i) (new_link v (eqb→eq w v (subst (λ o. T (agree o (Some v))) now_linked (subst (λ x. T (rf joined v x)) i h))))
      | inr n ↦ old_link v q (sg.linked v q (subst (λ o. T (agree o (Some v))) (sym (others q n)) h))
    ];
    placed_writes = sg.placed_writes;
    placed_once = sg.placed_once;
    initial_placed = sg.initial_placed;
    initial_first = sg.initial_first;
  }
