-- In a list of order 0 each linked read stands after its source, with no other write to its location between them.
use Rattle.std.proofs.Common.{◌≡◌, ℕ, ◌<◌, Bool, not, ◌&&◌, ◌||◌, T, eqb, List, [], ◌∷◌, ◌++◌, length, get_or, Some, None, Option, sym, refl, ap, subst, inl, inr, arith, eqb→eq, lt→ltb}
use lib.Dec.{eqb_refl}
use Rattle.event.specs.declared.event.Label.{Label}
use Rattle.event.specs.declared.event.Event.{Event}
use Rattle.event.specs.Labels.{no_event, agree, is_write, one_location}
use Rattle.execution.specs.Lists.{holds, precedes, distinct}
use Rattle.execution.specs.Content.{Content, label_of, source_of, same_location, rf, mo, rb, overwrites}
use Rattle.execution.proofs.Tests.{both, no}
use Rattle.cycles.specs.Listings.{stands, Listing}
use Rattle.cycles.proofs.Repeats.{Distinct, parts}
use Rattle.cycles.proofs.Listed.{listing_begun, begun_distinct}
use Rattle.model.specs.Meaning.{Meaning, Rules, Coheres}
use Rattle.verdict.specs.Completions.{Completion}
use Rattle.verdict.specs.Shown.{ReadsLast}
use Rattle.verdict.proofs.Lists.{precedes_one_way, precedes_some_way, never_before_itself}
use Rattle.verdict.proofs.Growing.{within_completion}

pub one_location_same : (a b c : Label) → T (one_location a c) → T (one_location b c) → T (one_location a b)
one_location_same a b c h k = grind arith

pub one_location_swap : (a b : Label) → T (one_location a b) → T (one_location b a)
one_location_swap a b h = grind arith

pub stands_holds : (xs : List ℕ) (a : ℕ) → stands xs a ≡ holds xs a
stands_holds [] a = refl
stands_holds (x ∷ xs) a = ap (λ b. eqb x a || b) (stands_holds xs a)

distinct_list : (xs : List ℕ) → Distinct xs → T (distinct xs)
distinct_list [] d = tt
distinct_list (x ∷ xs) d = both (not (holds xs x)) (distinct xs) (no (holds xs x) (λ h. d.0 (subst T (sym (stands_holds xs x)) h))) (distinct_list xs d.1)

holds_middle : (ys zs : List ℕ) (b : ℕ) → T (holds (ys ++ (b ∷ zs)) b)
holds_middle [] zs b = let e = eqb_refl b in grind arith
holds_middle (y ∷ ys) zs b = let ih = holds_middle ys zs b in grind arith

precedes_middle : (ys zs : List ℕ) (a b : ℕ) → T (holds ys a) → T (precedes (ys ++ (b ∷ zs)) a b)
precedes_middle [] zs a b h = elim h [ ]
precedes_middle (y ∷ ys) zs a b h = let ih = precedes_middle ys zs a b in let k = holds_middle ys zs b in grind arith

module _ (r : ℕ → ℕ → Bool) (n : ℕ) (xs : List ℕ) (l : Listing r n xs) where
  pub listing_distinct : T (distinct xs)
  listing_distinct = distinct_list xs (begun_distinct r n xs (listing_begun r n xs l))

  -- a pair of the relation stands in its order
  pub listing_precedes : (a b : ℕ) → a < n → b < n → T (r a b) → T (precedes xs a b)
  listing_precedes a b la lb h =
      let p = parts xs b (l.all b lb) in
      let paired = both _ _ (lt→ltb a n la) (both _ (r a b) (lt→ltb b n lb) h) in
      let before = subst T (stands_holds p.0 a) ((l.ready p.0 p.1 b p.2).preceded a paired) in
      subst (λ (zs : List ℕ). T (precedes zs a b)) (sym p.2) (precedes_middle p.0 p.1 a b before)

module _ (m : Meaning) (rules : Rules m) (g h : Content) (c : Completion g h) (xs : List ℕ) (l : Listing (m.pairs h 0) (length h.events) xs) where
  floor : Coheres h (m.pairs h 0)
  floor = rules.floor h c.sound

  listed : (a b : ℕ) → T (m.pairs h 0 a b) → T (precedes xs a b)
  listed a b p = let i = rules.inside h c.sound 0 a b p in listing_precedes (m.pairs h 0) (length h.events) xs l a b i.0 i.1 p

  once : T (distinct xs)
  once = listing_distinct (m.pairs h 0) (length h.events) xs l

  -- a read stands before every other write that overwrites its source
  overwritten : (w r d : ℕ) → T (rf h w r) → T (mo h w d) → (r ≡ d → ⊥) → T (rb h r d)
  overwritten w r d = go (source_of h r)
    where
      go : (o : Option ℕ) → T (agree o (Some w)) → T (mo h w d) → (r ≡ d → ⊥) → T (not (eqb r d) && overwrites h o d)
      go None e k n = elim e [ ]
      go (Some v) e k n = both (not (eqb r d)) (mo h v d) (no (eqb r d) (λ q. n (eqb→eq r d q))) (subst (λ x. T (mo h x d)) (sym (eqb→eq v w e)) k)

  reads_last_full : ReadsLast h xs
  reads_last_full = record {
    after = λ w r k. listed w r (floor.by_rf w r k);
    between = λ w r d k writes there other p q.
        let s = c.sound.linked w r k in
        let near = one_location_same (label_of h w) (label_of h d) (label_of h r) s.there there in
        elim (precedes_some_way h.placed w d (c.full w s.writes) (c.full d writes) (λ e. other (sym e))) [
          | inl o ↦
              let apart = λ (e : r ≡ d). never_before_itself xs d once (subst (λ x. T (precedes xs d x)) e q) in
              precedes_one_way xs d r once q (listed r d (floor.by_rb r d (overwritten w r d k (both (same_location h w d) (precedes h.placed w d) near o) apart)))
          | inr o ↦
              let back = both (same_location h d w) (precedes h.placed d w) (one_location_swap (label_of h w) (label_of h d) near) o in
              precedes_one_way xs w d once p (listed d w (floor.by_mo d w back))
        ];
  }

  -- and so of the graph that is judged, whose events and links are the same
  pub reads_last : ReadsLast g xs
  reads_last = record {
    after = λ w r k. reads_last_full.after w r (links w r k);
    between = λ w r d k writes there other. reads_last_full.between w r d (links w r k)
        (subst (λ (es : List Event). T (is_write (get_or es d no_event).label)) (sym c.events) writes)
        (subst (λ (es : List Event). T (one_location (get_or es d no_event).label (get_or es r no_event).label)) (sym c.events) there)
        other;
  }
    where
      links : (w r : ℕ) → T (rf g w r) → T (rf h w r)
      links = (within_completion g h c).links
