-- What an answer writes fits a sheet of 1,280 numbers: four lists of 256 events, and 256 writes.
use Rattle.std.proofs.Common.{◌≡◌, ℕ, suc, ◌+◌, ◌*◌, ◌<◌, ◌≤◌, Bool, true, false, cond, not, T, leb, List, [], ◌∷◌, ◌++◌, map, length, get_or, Some, None, filter, Option, refl, ap, arith, leb→le, length-append}
use Rattle.event.specs.declared.denial.Denial.{Denial}
use Rattle.event.specs.declared.denial.Denial.TheVariants.{Sheet, Wide}
use Rattle.event.specs.Labels.{agree, location}
use Rattle.execution.specs.Lists.{holds, distinct, upto}
use Rattle.execution.specs.Content.{Content, label_of}
use Rattle.event.specs.Denials.{unless, or_else}
use Rattle.execution.specs.Sound.{Sound}
use Rattle.execution.proofs.Tests.{left, right, yes_no}
use Rattle.execution.proofs.Lists.{few_distinct, upto_distinct}
use Rattle.execution.proofs.Among.{placed_among}
use Rattle.execution.proofs.Denied.{passed}
use Rattle.cycles.proofs.Repeats.{short_cycle}
use Rattle.cycles.proofs.Listed.{listing_length}
use Rattle.model.specs.Meaning.{Meaning, Rules}
use Rattle.verdict.specs.Shown.{modification_orders, Shown}
use Rattle.verdict.specs.Denials.{unread, too_wide, judge_denial}
use Rattle.verdict.specs.Answers.{Answer, allowed, cyclic, no_placement, denied, Found, RightUnless, joined, written}
use Rattle.verdict.specs.Judging.{AnswersFit}

-- lists of at most k each
joined_bound : (xss : List (List ℕ)) (k : ℕ) → ((i : ℕ) → i < length xss → length (get_or xss i []) ≤ k) → length (joined xss) ≤ length xss * k
joined_bound [] k f = omega arith
joined_bound (xs ∷ xss) k f =
    let ih = joined_bound xss k (λ i l. f (suc i) (omega arith)) in
    let here : length xs ≤ k = f 0 (omega arith) in
    omega (arith, length-append xs (joined xss))

-- how many of the locations are that of an access
hits : Option ℕ → List ℕ → ℕ
hits o [] = 0
hits o (l ∷ ls) = cond (agree o (Some l)) 1 0 + hits o ls

no_hit : (v : ℕ) (ls : List ℕ) → (T (holds ls v) → ⊥) → hits (Some v) ls ≡ 0
unfolding hits
no_hit v [] n = refl
no_hit v (l ∷ ls) n = let ih = no_hit v ls in grind arith

one_hit : (o : Option ℕ) (ls : List ℕ) → T (distinct ls) → hits o ls ≤ 1
unfolding hits
one_hit o [] d = omega arith
one_hit None (l ∷ ls) d = let ih = one_hit None ls (right (not (holds ls l)) _ d) in omega arith
one_hit (Some v) (l ∷ ls) d =
    let ih = one_hit (Some v) ls (right (not (holds ls l)) _ d) in
    let none = no_hit l ls (yes_no (holds ls l) (left (not (holds ls l)) _ d)) in
    grind arith

module _ (site : ℕ → Option ℕ) where
  abbrev part : List ℕ → ℕ → List ℕ
  part xs l = filter (λ w. agree (site w) (Some l)) xs

  kept_one : (b : Bool) (x : ℕ) (ys zs : List ℕ) → length (cond b (x ∷ ys) ys ++ zs) ≡ cond b 1 0 + (length ys + length zs)
  kept_one true x ys zs = omega (arith, length-append ys zs)
  kept_one false x ys zs = omega (arith, length-append ys zs)

  one_more : (x : ℕ) (xs ls : List ℕ) → length (joined (map (part (x ∷ xs)) ls)) ≡ hits (site x) ls + length (joined (map (part xs) ls))
  unfolding hits
  one_more x xs [] = refl
  one_more x xs (l ∷ ls) =
      let ih = one_more x xs ls in
      let here = kept_one (agree (site x) (Some l)) x (part xs l) (joined (map (part (x ∷ xs)) ls)) in
      omega (arith, length-append (part xs l) (joined (map (part xs) ls)))

  none_left : (ls : List ℕ) → length (joined (map (part []) ls)) ≡ 0
  none_left [] = refl
  none_left (l ∷ ls) = none_left ls

  -- each write stands in one location's part at most
  parts_bound : (ls : List ℕ) → T (distinct ls) → (xs : List ℕ) → length (joined (map (part xs) ls)) ≤ length xs
  parts_bound ls d [] = omega (arith, none_left ls)
  parts_bound ls d (x ∷ xs) = let ih = parts_bound ls d xs in omega (arith, one_more x xs ls, one_hit (site x) ls d)

pub orders_bound : (h : Content) → Sound h → length (joined (modification_orders h)) ≤ 256
orders_bound h s =
    let few = few_distinct (length h.events) h.placed s.placed_once (λ a k. placed_among h s a k) in
    let all = parts_bound (λ w. location (label_of h w)) (upto h.locations) (upto_distinct h.locations) h.placed in
    omega (arith, s.few_events)

lists_bound : (m : Meaning) → Rules m → (g h : Content) (lists orders : List (List ℕ)) → Shown m g h lists orders → length (joined lists) ≤ 1024
lists_bound m rules g h lists orders s =
    let each = joined_bound lists 256 (λ i l.
    let below : i < m.orders = omega (arith, s.as_many) in
    omega (arith, listing_length (m.pairs h i) (length h.events) (get_or lists i []) (s.listed i below), s.placed.completes.sound.few_events)) in
    omega (arith, s.as_many, rules.few.1)

found_fits : (m : Meaning) → Rules m → (g : Content) → Sound g → (a : Answer) → Found m g a → length (written a) ≤ 1280
found_fits m rules g sg (allowed lists orders) f =
    let one = lists_bound m rules g f.0 lists orders f.1 in
    let two = orders_bound f.0 f.1.placed.completes.sound in
    omega (arith, length-append (joined lists) (joined orders), ap (λ (xss : List (List ℕ)). length (joined xss)) f.1.ordered)
found_fits m rules g sg (cyclic k xs) f =
    let short = short_cycle (m.pairs g k) (length g.events) (rules.inside g sg k) xs f.2.round in
    omega (arith, f.2.shortest short.0 short.1, short.2, sg.few_events)
found_fits m rules g sg no_placement f = omega arith
found_fits m rules g sg (denied d) f = absurd f

rest_passed : (o rest : Option Denial) → or_else o rest ≡ None → rest ≡ None
rest_passed None rest h = h
rest_passed (Some d) rest h = cc

pub answers_fit : AnswersFit
answers_fit m rules s sound n a = by (judge_denial s n) refl
  where
    by : (o : Option Denial) → judge_denial s n ≡ o → RightUnless o m s.content a → length (written a) ≤ n
    by (Some d) e r = omega (arith, ap (λ (x : Answer). length (written x)) r)
    by None e r =
        let rest = rest_passed (cond s.closed (unread s.content) None) _ e in
        let long = leb→le 1280 n (passed (leb 1280 n) Sheet (unless (not (too_wide s.content)) Wide None) rest) in
        omega (arith, found_fits m rules s.content sound a r)
