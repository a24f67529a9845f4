-- Relations as tests agree with the textbook's.
use Rattle.std.specs.Prelude.{◌≡◌, ℕ, ◌<◌, Bool, false, not, ◌&&◌, ◌||◌, T, ◌⊎◌, List, [], ◌∷◌, length, is_some, Some, None, Option, ◌==◌, ◌≢◌, nat_lt, refl}
use Rattle.std.proofs.Common.{sym, subst, ap, ◌∙◌, inl, inr, eqb→eq, ltb→lt, arith}
use Rattle.std.proofs.Math.Dec.{eqb_refl}
use Rattle.std.proofs.lemmas.Bool.{cases_eq}
use Rattle.std.proofs.lemmas.Bool.Decides.{nat_tests}
use Rattle.event.specs.Labels.{agree, location, value_read, value_written}
use Rattle.execution.specs.Lists.{holds, precedes, distinct}
use Rattle.execution.specs.Content.{Content, thread_of, label_of, source_of, same_location, po, rf, mo, rb}
use Rattle.execution.specs.Sound.{Sound}
use Rattle.execution.proofs.Lists.{precedes_first, precedes_second}
use Rattle.cycles.specs.Steps.{Plus, last, step}
use Rattle.cycles.specs.Cycles.{Acyclic}
use Rattle.cycles.proofs.Walks.{return_cycle, none_returns}
use Rattle.boards.specs.Relations.{◌∪◌, at_one_location, steps, one_order, two_orders}
use Rattle.boards.specs.Agreement.{Full, Follows}
use Rattle.boards.specs.Textbook as book
use Rattle.boards.specs.Textbook.{once, then}
use Rattle.execution.proofs.Tests.{both, left, right, either, no, yes_no, is_true, truth, same}
use Rattle.model.specs.Either.{or_left, or_right}
use Rattle.model.specs.Growing.{rb_source, source_rb}
use Rattle.boards.specs.Stepping.{steps_are_one_or_more}

-- a test and a proposition that hold of the same pairs
abbrev pub Same : (ℕ → ℕ → Bool) → (ℕ → ℕ → Type 0) → Type 0
Same r R = (a b : ℕ) → (T (r a b) → R a b) × (R a b → T (r a b))

-- the modification order of a graph
abbrev pub MO : Content → ℕ → ℕ → Type 0
MO g a b = T (mo g a b)

pub same_itself : (r : ℕ → ℕ → Bool) → Same r (λ a b. T (r a b))
same_itself r a b = (λ h. h, λ h. h)

pub same_union : (r s : ℕ → ℕ → Bool) (R S : ℕ → ℕ → Type 0) → Same r R → Same s S → Same (r ∪ s) (book.◌∪◌ R S)
same_union r s R S p q a b = (
  λ h. elim (either (r a b) (s a b) h) [ inl x ↦ inl ((p a b).0 x) | inr y ↦ inr ((q a b).0 y) ],
  λ h. elim h [ inl x ↦ or_left (r a b) (s a b) ((p a b).1 x) | inr y ↦ or_right (r a b) (s a b) ((q a b).1 y) ],
)

-- two that agree are one location's
pub agreed : (o p : Option ℕ) → T (agree o p) → (x : ℕ) × (o ≡ Some x) × (p ≡ Some x)
agreed (Some x) (Some y) h = (x, refl, ap Some (sym (eqb→eq x y h)))
agreed (Some x) None h = elim h [ ]
agreed None (Some y) h = elim h [ ]
agreed None None h = elim h [ ]

pub agreeing : (o p : Option ℕ) (x : ℕ) → o ≡ Some x → p ≡ Some x → T (agree o p)
agreeing o p x d e = subst (λ q. T (agree q p)) (sym d) (subst (λ q. T (agree (Some x) q)) (sym e) (eqb_refl x))

pub same_near : (g : Content) (r : ℕ → ℕ → Bool) (R : ℕ → ℕ → Type 0) → Same r R → Same (at_one_location g r) (book.per_location g R)
same_near g r R p a b = (
  λ h. ((p a b).0 (left (r a b) _ h), agreed (location (label_of g a)) (location (label_of g b)) (right (r a b) _ h)),
  λ h. both (r a b) (same_location g a b) ((p a b).1 h.0) (agreeing (location (label_of g a)) (location (label_of g b)) h.1.0 h.1.1 h.1.2),
)

pub same_rb : (g : Content) → Same (rb g) (book.RB g (MO g))
same_rb g a b = (
  λ h. (rb_source g a b h, λ e. yes_no (a == b) (left (not (a == b)) _ h) (same a b e)),
  λ h. source_rb g h.0.0 a b h.0.1 h.0.2 (no (a == b) (λ k. h.1 (eqb→eq a b k))),
)

-- one or more steps, either way
module _ (r : ℕ → ℕ → Bool) (R : ℕ → ℕ → Type 0) (p : Same r R) where
  to_book : {a b : ℕ} → Plus r a b → book.OneOrMore R a b
  to_book {a} {b} (last h) = once ((p a b).0 h)
  to_book {a} (step {m = m} h w) = then ((p a m).0 h) (to_book w)

  from_book : {a b : ℕ} → book.OneOrMore R a b → Plus r a b
  from_book {a} {b} (once h) = last ((p a b).1 h)
  from_book {a} (then {m = m} h w) = step ((p a m).1 h) (from_book w)

  pub same_steps : (g : Content) → ((a b : ℕ) → T (r a b) → b < length g.events) → Same (steps g r) (book.OneOrMore R)
  same_steps g inside a b = let w = steps_are_one_or_more g r inside a b in (
    λ h. to_book (w.0 (is_true (steps g r a b) h)),
    λ h. truth (steps g r a b) (w.1 (from_book h)),
  )

  pub acyclic_book : Acyclic r → book.Acyclic R
  acyclic_book f a w = let c = return_cycle r a (from_book w) in f c.0 c.1

  pub acyclic_test : book.Acyclic R → Acyclic r
  acyclic_test f = none_returns r (λ a w. f a (to_book w))

-- a list in which nothing stands twice is an order
before_itself : (xs : List ℕ) (a : ℕ) → T (distinct xs) → T (precedes xs a a) → ⊥
before_itself [] a d h = h
before_itself (x ∷ xs) a d h = let ih = before_itself xs a in grind arith

before_before : (xs : List ℕ) (a b c : ℕ) → T (distinct xs) → T (precedes xs a b) → T (precedes xs b c) → T (precedes xs a c)
before_before [] a b c d h k = h
before_before (x ∷ xs) a b c d h k = let ih = before_before xs a b c in let s = precedes_second xs a b in let t = precedes_second xs b c in grind arith

before_or_after : (xs : List ℕ) (a b : ℕ) → T (holds xs a) → T (holds xs b) → (a ≢ b) → T (precedes xs a b) ⊎ T (precedes xs b a)
before_or_after [] a b h k n = elim h [ ]
before_or_after (x ∷ xs) a b h k n = let ih = λ (i : T (holds xs a)) (j : T (holds xs b)). before_or_after xs a b i j n in grind arith

-- program order is a strict partial order
po_itself : (g : Content) (a : ℕ) → T (po g a a) → ⊥
po_itself g a h = grind arith

po_po : (g : Content) (a b c : ℕ) → T (po g a b) → T (po g b c) → T (po g a c)
po_po g a b c h k = go (thread_of g a) (thread_of g b) (thread_of g c) g.locations (length g.events) h k
  where
    go : (t u v l n : ℕ) → T (nat_lt b n && ((t == u && nat_lt a b) || (nat_lt a l && not (nat_lt b l)))) → T (nat_lt c n && ((u == v && nat_lt b c) || (nat_lt b l && not (nat_lt c l)))) → T (nat_lt c n && ((t == v && nat_lt a c) || (nat_lt a l && not (nat_lt c l))))
    go t u v l n p q = grind (arith, nat_tests)

-- what a full graph has
module _ (g : Content) (s : Sound g) (f : Full g) where
  pub execution_graph : book.ExecutionGraph g
  execution_graph = record {
    po_irreflexive = po_itself g;
    po_transitive = po_po g;
    from_write_to_read = λ w r h. ((s.linked w r h).writes, (s.linked w r h).reads);
    of_one_location = λ w r h. agreed (location (label_of g w)) (location (label_of g r)) (s.linked w r h).there;
    of_one_value = λ w r h. agreed (value_written (label_of g w)) (value_read (label_of g r)) (s.linked w r h).value;
    one_source = λ v w r h k. one (source_of g r) v w h k;
  }
    where
      one : (o : Option ℕ) (v w : ℕ) → T (agree o (Some v)) → T (agree o (Some w)) → v ≡ w
      one None v w h k = elim h [ ]
      one (Some x) v w h k = sym (eqb→eq x v h) ∙ eqb→eq x w k

  pub complete : book.Complete g
  complete r h = source (source_of g r) (f.all_linked r h)
    where
      source : (o : Option ℕ) → T (is_some o) → (w : ℕ) × T (agree o (Some w))
      source None h = elim h [ ]
      source (Some w) h = (w, eqb_refl w)

  there : (a b : ℕ) → MO g a b → (x : ℕ) × book.Accesses g x a × book.Accesses g x b
  there a b h = agreed (location (label_of g a)) (location (label_of g b)) (left (same_location g a b) _ h)

  before : (a b : ℕ) → MO g a b → T (precedes g.placed a b)
  before a b h = right (same_location g a b) _ h

  together : (x a b : ℕ) → book.Accesses g x a → book.Accesses g x b → T (same_location g a b)
  together x a b d e = agreeing (location (label_of g a)) (location (label_of g b)) x d e

  pub modification_order : book.ModificationOrder g (MO g)
  modification_order = record {
    of_one_location = λ a b h. let l = there a b h in (
      l.0,
      (s.placed_writes a (precedes_first g.placed a b (before a b h)), l.1),
      (s.placed_writes b (precedes_second g.placed a b (before a b h)), l.2),
    );
    irreflexive = λ a h. before_itself g.placed a s.placed_once (before a a h);
    transitive = λ a b c h k. let l = there a b h in let m = there b c k in
        both (same_location g a c) _
        (together l.0 a c l.1 (m.2 ∙ sym m.1 ∙ l.2))
        (before_before g.placed a b c s.placed_once (before a b h) (before b c k));
    total = λ x a b v w n. elim (before_or_after g.placed a b (f.all_placed a v.0) (f.all_placed b w.0) n) [
      | inl h ↦ inl (both (same_location g a b) _ (together x a b v.1 w.1) h)
      | inr h ↦ inr (both (same_location g b a) _ (together x b a w.1 v.1) h)
    ];
    initial_first = λ x a b v w i n. let t = together x a b v.1 w.1 in
        both (same_location g a b) _ t (s.initial_first a b (ltb→lt a g.locations i) (f.all_placed b w.0) t n);
  }

-- a model of one order, whose relation agrees with the textbook's
pub follows_one : (r : Content → ℕ → ℕ → Bool) (R : Content → (ℕ → ℕ → Type 0) → ℕ → ℕ → Type 0) → ((g : Content) → Sound g → Same (r g) (R g (MO g))) → Follows (one_order r) (λ g M. book.Consistent g M (R g M))
follows_one r R p g s f = (
  λ h. record { execution_graph = execution_graph g s f; complete = complete g s f; modification_order = modification_order g s f; acyclic = acyclic_book (r g) (R g (MO g)) (p g s) (h 0 (omega arith)) },
  λ h k l. let e : 0 ≡ k = omega arith in subst (λ i. Acyclic ((one_order r).pairs g i)) e (acyclic_test (r g) (R g (MO g)) (p g s) h.acyclic),
)

-- a model of two orders, likewise
pub follows_two : (r s : Content → ℕ → ℕ → Bool) (R S : Content → (ℕ → ℕ → Type 0) → ℕ → ℕ → Type 0) → ((g : Content) → Sound g → Same (r g) (R g (MO g))) → ((g : Content) → Sound g → Same (s g) (S g (MO g))) → Follows (two_orders r s) (λ g M. book.Consistent g M (R g M) × book.Acyclic (S g M))
follows_two r s R S p q g sound f =
    let first : Same ((two_orders r s).pairs g 0) (R g (MO g)) = λ a b. (
      λ h. (p g sound a b).0 (elim (either (r g a b) false h) [ inl x ↦ x | inr y ↦ elim y [ ] ]),
      λ h. or_left (r g a b) false ((p g sound a b).1 h),
    ) in
    let second : Same ((two_orders r s).pairs g 1) (S g (MO g)) = q g sound in (
      λ h. (
        record { execution_graph = execution_graph g sound f; complete = complete g sound f; modification_order = modification_order g sound f; acyclic = acyclic_book ((two_orders r s).pairs g 0) (R g (MO g)) first (h 0 (omega arith)) },
        acyclic_book ((two_orders r s).pairs g 1) (S g (MO g)) second (h 1 (omega arith)),
      ),
      λ h k l. elim (cases_eq 0 k) [
        | inl e ↦ subst (λ i. Acyclic ((two_orders r s).pairs g i)) e (acyclic_test ((two_orders r s).pairs g 0) (R g (MO g)) first h.0.acyclic)
        | inr n ↦ let e : 1 ≡ k = omega arith in subst (λ i. Acyclic ((two_orders r s).pairs g i)) e (acyclic_test ((two_orders r s).pairs g 1) (S g (MO g)) second h.1)
      ],
    )

pub same_rest : (g : Content) → Same (rf g ∪ mo g ∪ rb g) (book.◌∪◌ (book.RF g) (book.◌∪◌ (MO g) (book.RB g (MO g))))
same_rest g = same_union (rf g) (mo g ∪ rb g) _ _ (same_itself (rf g)) (same_union (mo g) (rb g) _ _ (same_itself (mo g)) (same_rb g))
