-- A graph as it is opened is sound.
use Rattle.std.proofs.Common.{◌≡◌, ℕ, zero, suc, ◌<◌, ◌≤◌, T, List, [], ◌∷◌, map, length, get_or, replicate, Some, None, Option, sym, refl, ap, ◌∙◌, subst, arith, eqb→eq}
use lib.ListN.{length-replicate}
use Rattle.event.specs.declared.event.Event.{Event}
use Rattle.event.specs.Labels.{agree, one_location, is_write, initial_write, no_event}
use Rattle.execution.specs.Lists.{upto}
use Rattle.execution.specs.Content.{Content, opening, label_of, same_location, rf}
use Rattle.execution.specs.Sound.{Sound}
use Rattle.execution.proofs.Lists.{upto_below, below_upto, upto_distinct, upto_length, upto_at}

map_length : {A B : Type 0} (f : A → B) (xs : List A) → length (map f xs) ≡ length xs
map_length f [] = refl
map_length f (x ∷ xs) = ap suc (map_length f xs)

map_at : (ls : List ℕ) (a : ℕ) → a < length ls → get_or (map initial_write ls) a no_event ≡ initial_write (get_or ls a 0)
map_at [] a h = absurd (omega arith)
map_at (l ∷ ls) zero h = refl
map_at (l ∷ ls) (suc a) h = map_at ls a (omega arith)

pub none_at : (n a : ℕ) → get_or (replicate {A = Option ℕ} n None) a None ≡ None
none_at zero a = refl
none_at (suc n) zero = refl
none_at (suc n) (suc a) = none_at n a

module _ (threads n : ℕ) where
  abbrev g : Content
  g = opening threads n

  pub opening_count : length g.events ≡ n
  opening_count = map_length initial_write (upto n) ∙ upto_length n

  pub opening_at : (l : ℕ) → l < n → get_or g.events l no_event ≡ initial_write l
  opening_at l k = map_at (upto n) l (omega (arith, upto_length n)) ∙ ap initial_write (upto_at n l k)

  unlinked : (w r : ℕ) → T (rf g w r) → ⊥
  unlinked w r h = subst (λ o. T (agree o (Some w))) (none_at n r) h

  apart : (l w : ℕ) → l < n → w < n → T (same_location g l w) → l ≡ w
  apart l w j k h = eqb→eq l w (subst (λ (e : Event). T (one_location e.label (initial_write w).label)) (opening_at l j) (subst (λ (e : Event). T (one_location (label_of g l) e.label)) (opening_at w k) h))

  pub opening_sound : 1 ≤ threads → threads ≤ 16 → 1 ≤ n → n ≤ 16 → Sound g
  opening_sound lt ut ln un = record {
    some_thread = lt;
    few_threads = ut;
    some_location = ln;
    few_locations = un;
    few_events = omega (arith, opening_count);
    opened = omega (arith, opening_count);
    aligned = length-replicate n None ∙ sym opening_count;
    initial_writes = opening_at;
    recorded = λ a l k. absurd (omega (arith, opening_count));
    linked = λ w r h. absurd (unlinked w r h);
    placed_writes = λ w h. subst (λ (e : Event). T (is_write e.label)) (sym (opening_at w (upto_below n w h))) tt;
    placed_once = upto_distinct n;
    initial_placed = below_upto n;
    initial_first = λ l w k h s ne. absurd (ne (apart l w k (upto_below n w h) s));
  }
