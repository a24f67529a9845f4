-- Relations that join events of a graph and only grow with it.
use Rattle.std.specs.Prelude.{◌≡◌, ℕ, ◌<◌, ◌≤◌, Bool, not, ◌&&◌, ◌||◌, T, length, Some, None, Option, ◌==◌, nat_lt}
use Rattle.std.proofs.Common.{sym, subst, ap, ap₂, inl, inr, arith, eqb→eq}
use Rattle.std.proofs.Math.Dec.{eqb_refl}
use Rattle.event.specs.declared.event.Event.{Event}
use Rattle.event.specs.Labels.{agree, one_location}
use Rattle.execution.specs.Content.{Content, thread_of, label_of, source_of, same_location, initial, po, rf, mo, rb, overwrites}
use Rattle.execution.specs.Sound.{Sound, Within}
use Rattle.execution.proofs.Tests.{both, left, right, either}
use Rattle.execution.proofs.Among.{write_among, read_among, mo_among}
use Rattle.model.specs.Either.{or_left, or_right}

pub record Grows (r : Content → ℕ → ℕ → Bool) : Type 0 where
  pub inside : (g : Content) → Sound g → (a b : ℕ) → T (r g a b) → (a < length g.events) × (b < length g.events)
  pub grows : (g h : Content) → Sound g → Sound h → Within g h → (a b : ℕ) → T (r g a b) → T (r h a b)

-- either of two
pub join : (r s : Content → ℕ → ℕ → Bool) → Grows r → Grows s → Grows (λ g a b. r g a b || s g a b)
join r s p q = record {
  inside = λ g k a b h. elim (either (r g a b) (s g a b) h) [ inl x ↦ p.inside g k a b x | inr y ↦ q.inside g k a b y ];
  grows = λ g h k l i a b t. elim (either (r g a b) (s g a b) t) [
    | inl x ↦ or_left (r h a b) (s h a b) (p.grows g h k l i a b x)
    | inr y ↦ or_right (r h a b) (s h a b) (q.grows g h k l i a b y)
  ];
}

-- in one order only
pub guard : (c : Bool) (r : Content → ℕ → ℕ → Bool) → Grows r → Grows (λ g a b. c && r g a b)
guard c r p = record {
  inside = λ g s a b h. p.inside g s a b (right c (r g a b) h);
  grows = λ g h s t i a b k. both c (r h a b) (left c (r g a b) k) (p.grows g h s t i a b (right c (r g a b) k));
}

-- cut down by what is the same in the larger graph
pub part : (r s : Content → ℕ → ℕ → Bool) → Grows r
    → ((g h : Content) → Within g h → (a b : ℕ) → a < length g.events → b < length g.events → s g a b ≡ s h a b)
    → Grows (λ g a b. r g a b && s g a b)
part r s p same = record {
  inside = λ g k a b h. p.inside g k a b (left (r g a b) (s g a b) h);
  grows = λ g h k l i a b t.
      let x = left (r g a b) (s g a b) t in
      let n = p.inside g k a b x in
      both (r h a b) (s h a b) (p.grows g h k l i a b x) (subst T (same g h i a b n.0 n.1) (right (r g a b) (s g a b) t));
}

-- what an event is, it is in the larger graph
pub thread_within : (g h : Content) → Within g h → (a : ℕ) → a < length g.events → thread_of g a ≡ thread_of h a
thread_within g h i a l = ap (λ (e : Event). e.thread) (i.events a l)

pub label_within : (g h : Content) → Within g h → (a : ℕ) → a < length g.events → label_of g a ≡ label_of h a
label_within g h i a l = ap (λ (e : Event). e.label) (i.events a l)

pub location_within : (g h : Content) → Within g h → (a b : ℕ) → a < length g.events → b < length g.events → same_location g a b ≡ same_location h a b
location_within g h i a b k l = ap₂ one_location (label_within g h i a k) (label_within g h i b l)

-- between accesses of one location
pub near : (r : Content → ℕ → ℕ → Bool) → Grows r → Grows (λ g a b. r g a b && same_location g a b)
near r p = part r same_location p location_within

po_among : (g : Content) → g.locations ≤ length g.events → (a b : ℕ) → T (po g a b) → (a < length g.events) × (b < length g.events)
po_among g o a b h = grind arith

po_same : (g h : Content) → Within g h → (a b : ℕ) → a < length g.events → b < length g.events → T (po g a b) → T (po h a b)
po_same g h i a b k l t = go (thread_of h a) (thread_of h b) (thread_within g h i a k) (thread_within g h i b l)
  where
    go : (u v : ℕ) → thread_of g a ≡ u → thread_of g b ≡ v → T (nat_lt b (length h.events) && ((u == v && nat_lt a b) || (initial h a && not (initial h b))))
    go u v d e = let n = i.count in let m = i.locations in grind arith

pub po_grows : Grows po
po_grows = record {
  inside = λ g s. po_among g s.opened;
  grows = λ g h s t i a b k. let n = po_among g s.opened a b k in po_same g h i a b n.0 n.1 k;
}

pub rf_grows : Grows rf
rf_grows = record {
  inside = λ g s a b h. (write_among g a (s.linked a b h).writes, read_among g b (s.linked a b h).reads);
  grows = λ g h s t i. i.links;
}

pub mo_grows : Grows mo
mo_grows = record { inside = mo_among; grows = λ g h s t i. i.order }

-- reads-before by way of the source
pub rb_source : (g : Content) (r c : ℕ) → T (rb g r c) → (w : ℕ) × T (rf g w r) × T (mo g w c)
rb_source g r c h = go (source_of g r) (right (not (r == c)) _ h)
  where
    go : (o : Option ℕ) → T (overwrites g o c) → (w : ℕ) × T (agree o (Some w)) × T (mo g w c)
    go None k = elim k [ ]
    go (Some w) k = (w, eqb_refl w, k)

pub source_rb : (g : Content) (w r c : ℕ) → T (rf g w r) → T (mo g w c) → T (not (r == c)) → T (rb g r c)
source_rb g w r c e k n = both (not (r == c)) (overwrites g (source_of g r) c) n (go (source_of g r) e)
  where
    go : (o : Option ℕ) → T (agree o (Some w)) → T (overwrites g o c)
    go None e' = elim e' [ ]
    go (Some v) e' = subst (λ x. T (mo g x c)) (sym (eqb→eq v w e')) k

pub rb_grows : Grows rb
rb_grows = record {
  inside = λ g s a b h.
      let w = rb_source g a b h in
      (read_among g a (s.linked w.0 a w.1).reads, (mo_among g s w.0 b w.2).1);
  grows = λ g h s t i a b k.
      let w = rb_source g a b k in
      source_rb h w.0 a b (i.links w.0 a w.1) (i.order w.0 b w.2) (left (not (a == b)) _ k);
}
