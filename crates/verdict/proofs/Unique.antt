-- There is one right answer at most.
use Rattle.std.proofs.Common.{◌≡◌, ℕ, zero, suc, ◌<◌, Bool, true, false, T, List, [], map, length, get_or, Some, None, Option, sym, refl, ap, ◌∙◌, subst, ap₂, inl, inr, arith, ext_get_or}
use Rattle.std.proofs.lemmas.Bool.{cases_order}
use Rattle.event.specs.declared.denial.Denial.{Denial}
use Rattle.event.specs.declared.event.Event.{Event}
use Rattle.event.specs.Labels.{no_event, agree, location}
use Rattle.execution.specs.Lists.{upto}
use Rattle.execution.specs.Content.{Content, label_of, same_location, is_open}
use Rattle.execution.specs.Sound.{Sound, Within}
use Rattle.execution.proofs.Tests.{both, right}
use Rattle.execution.proofs.Lists.{precedes_first, precedes_second, kept_holds, kept_passes, kept_distinct}
use Rattle.cycles.specs.Cycles.{FirstCycle}
use Rattle.cycles.specs.Listings.{Listing}
use Rattle.cycles.proofs.Listed.{one_listing}
use Rattle.cycles.proofs.Firsts.{one_first_cycle}
use Rattle.model.specs.Meaning.{Meaning, Rules}
use Rattle.verdict.specs.Completions.{Completion}
use Rattle.verdict.specs.Places.{place_of, PlacedFirst}
use Rattle.verdict.specs.Shown.{modification_order, modification_orders, Shown}
use Rattle.verdict.specs.Denials.{judge_denial}
use Rattle.verdict.specs.Answers.{Answer, allowed, cyclic, no_placement, denied, Found, RightUnless, told, written, laid}
use Rattle.verdict.specs.Judging.{OneAnswer, OneVerdict}
use Rattle.verdict.proofs.Lists.{holds_kept, kept_precedes, precedes_kept, alike_same, map_same}
use Rattle.verdict.proofs.Growing.{cycle_forbids}
use Rattle.verdict.proofs.Agreeing.{within_same, same_order, placed_too}

pub same_test : (x y : Bool) → (T x → T y) → (T y → T x) → x ≡ y
same_test true true f g = refl
same_test true false f g = absurd (f tt)
same_test false true f g = absurd (g tt)
same_test false false f g = refl

agree_both : (a b : Option ℕ) (l : ℕ) → T (agree a (Some l)) → T (agree b (Some l)) → T (agree a b)
agree_both a b l p q = grind arith

-- of two orders that are shown the places of all open writes are equal
same_places : (m : Meaning) (g h f : Content) → PlacedFirst m g h → PlacedFirst m g f → (n w : ℕ) → w < n → T (is_open g w) → place_of g h w ≡ place_of g f w
same_places m g h f p q zero w l o = absurd (omega arith)
same_places m g h f p q (suc n) w l o =
    let up = p.first f q.completes q.serves w o (λ u k i. same_places m g h f p q n u (omega arith) i) in
    let down = q.first h p.completes p.serves w o (λ u k i. sym (same_places m g h f p q n u (omega arith) i)) in
    omega arith

module _ (m : Meaning) (rules : Rules m) (g : Content) (sg : Sound g) where
  -- what two orders with equal places show
  module _ (h f : Content) (c : Completion g h) (d : Completion g f) (equal : (w : ℕ) → T (is_open g w) → place_of g h w ≡ place_of g f w) where
    into : Within h f
    into = within_same g sg h f c d equal

    back : Within f h
    back = within_same g sg f h d c (λ w o. sym (equal w o))

    same_pairs : (k : ℕ) → m.pairs h k ≡ m.pairs f k
    same_pairs k = λ i a b. same_test (m.pairs h k a b) (m.pairs f k a b)
        (rules.growth h f c.sound d.sound into k a b) (rules.growth f h d.sound c.sound back k a b) i

    same_events : h.events ≡ f.events
    same_events = c.events ∙ sym d.events

    same_listing : (k : ℕ) (xs ys : List ℕ) → Listing (m.pairs h k) (length h.events) xs → Listing (m.pairs f k) (length f.events) ys → xs ≡ ys
    same_listing k xs ys p q =
        one_listing (m.pairs f k) (length f.events) xs ys
        (subst (λ (r : ℕ → ℕ → Bool). Listing r (length f.events) xs) (same_pairs k)
        (subst (λ (es : List Event). Listing (m.pairs h k) (length es) xs) same_events p)) q

    same_location_order : (l : ℕ) → modification_order h l ≡ modification_order f l
    same_location_order l =
        alike_same (modification_order h l) (modification_order f l) (record {
          once = kept_distinct (at h) h.placed c.sound.placed_once;
          once_too = kept_distinct (at f) f.placed d.sound.placed_once;
          into = λ a k. holds_kept (at f) f.placed a (placed_too g sg h f c d a (kept_holds (at h) h.placed a k)) (over a (kept_passes (at h) h.placed a k));
          back = λ a k. holds_kept (at h) h.placed a (placed_too g sg f h d c a (kept_holds (at f) f.placed a k)) (under a (kept_passes (at f) f.placed a k));
          order = λ a b k.
              let first = kept_passes (at h) h.placed a (precedes_first (modification_order h l) a b k) in
              let second = kept_passes (at h) h.placed b (precedes_second (modification_order h l) a b k) in
              let near = agree_both (location (label_of h a)) (location (label_of h b)) l first second in
              let pair = both (same_location h a b) _ near (kept_precedes (at h) h.placed a b k) in
              precedes_kept (at f) f.placed a b (right (same_location f a b) _ (same_order g sg h f c d equal a b pair)) (over a first) (over b second);
        })
      where
        at : Content → ℕ → Bool
        at x w = agree (location (label_of x w)) (Some l)

        over : (w : ℕ) → T (at h w) → T (at f w)
        over w = subst (λ (es : List Event). T (agree (location (get_or es w no_event).label) (Some l))) same_events

        under : (w : ℕ) → T (at f w) → T (at h w)
        under w = subst (λ (es : List Event). T (agree (location (get_or es w no_event).label) (Some l))) (sym same_events)

    same_orders : modification_orders h ≡ modification_orders f
    same_orders =
        map_same (modification_order h) (modification_order f) same_location_order (upto h.locations)
        ∙ ap (λ n. map (modification_order f) (upto n)) (c.locations ∙ sym d.locations)

  same_shown : (h f : Content) (lists lists' orders orders' : List (List ℕ)) → Shown m g h lists orders → Shown m g f lists' orders' → allowed lists orders ≡ allowed lists' orders'
  same_shown h f lists lists' orders orders' p q = ap₂ (λ (x y : List (List ℕ)). allowed x y) listed ordered
    where
      equal : (w : ℕ) → T (is_open g w) → place_of g h w ≡ place_of g f w
      equal w o = same_places m g h f p.placed q.placed (suc w) w (omega arith) o

      listed : lists ≡ lists'
      listed = ext_get_or [] lists lists' (p.as_many ∙ sym q.as_many) (λ k l.
          let below : k < m.orders = omega (arith, p.as_many) in
          same_listing h f p.placed.completes q.placed.completes equal k (get_or lists k []) (get_or lists' k []) (p.listed k below) (q.listed k below))

      ordered : orders ≡ orders'
      ordered = p.ordered ∙ same_orders h f p.placed.completes q.placed.completes equal ∙ sym q.ordered

  -- the lowest order with a cycle, and its first cycle
  same_cycle : (j k : ℕ) (xs ys : List ℕ) → Found m g (cyclic j xs) → Found m g (cyclic k ys) → cyclic j xs ≡ cyclic k ys
  same_cycle j k xs ys p q = elim (cases_order j k) [
    | inl e ↦ ap₂ (λ (i : ℕ) (zs : List ℕ). cyclic i zs) e (one_first_cycle (m.pairs g k) xs ys (subst (λ i. FirstCycle (m.pairs g i) xs) e p.2) q.2)
    | inr o ↦ elim o [
      | inl l ↦ absurd (q.1 j l xs p.2.round)
      | inr l ↦ absurd (p.1 k l ys q.2.round)
    ]
  ]

  serves_or_cycle : (lists orders : List (List ℕ)) (k : ℕ) (xs : List ℕ) → Found m g (allowed lists orders) → Found m g (cyclic k xs) → ⊥
  serves_or_cycle lists orders k xs p q =
      cycle_forbids g m sg rules k q.0 xs q.2.round (p.0, p.1.placed.completes, p.1.placed.serves)

  same_found : (a b : Answer) → Found m g a → Found m g b → a ≡ b
  same_found (allowed lists orders) (allowed lists' orders') p q = same_shown p.0 q.0 lists lists' orders orders' p.1 q.1
  same_found (allowed lists orders) (cyclic k xs) p q = absurd (serves_or_cycle lists orders k xs p q)
  same_found (allowed lists orders) no_placement p q = absurd (q.1 (p.0, p.1.placed.completes, p.1.placed.serves))
  same_found (allowed lists orders) (denied d) p q = absurd q
  same_found (cyclic j xs) (allowed lists orders) p q = absurd (serves_or_cycle lists orders j xs q p)
  same_found (cyclic j xs) (cyclic k ys) p q = same_cycle j k xs ys p q
  same_found (cyclic j xs) no_placement p q = absurd (q.0 j p.0 xs p.2.round)
  same_found (cyclic j xs) (denied d) p q = absurd q
  same_found no_placement (allowed lists orders) p q = absurd (p.1 (q.0, q.1.placed.completes, q.1.placed.serves))
  same_found no_placement (cyclic k ys) p q = absurd (p.0 k q.0 ys q.2.round)
  same_found no_placement no_placement p q = refl
  same_found no_placement (denied d) p q = absurd q
  same_found (denied d) b p q = absurd p

  same_answer : (o : Option Denial) (a b : Answer) → RightUnless o m g a → RightUnless o m g b → a ≡ b
  same_answer None a b p q = same_found a b p q
  same_answer (Some d) a b p q = p ∙ sym q

pub one_answer : OneAnswer
one_answer m rules s sound n a b p q = same_answer m rules s.content sound (judge_denial s n) a b p q

pub one_verdict : OneVerdict
one_verdict m rules s sound before q r x y j k = (
  j.returned ∙ ap told same ∙ sym k.returned,
  j.sheet ∙ ap (λ (a : Answer). laid (written a) before) same ∙ sym k.sheet,
)
  where
    same : j.answer ≡ k.answer
    same = one_answer m rules s sound (length before) j.answer k.answer j.right k.right
