-- Placements of open writes that are tried by computing: none serves, or the first that does.
use Rattle.std.proofs.Common.{◌≡◌, ℕ, suc, ◌<◌, ◌≤◌, Bool, not, ◌&&◌, ◌||◌, T, leb, List, [], ◌∷◌, length, get_or, is_some, Some, None, Option, refl, inl, inr, arith, le→leb, leb→le}
use Rattle.std.proofs.lemmas.Bool.{cases_lt}
use Rattle.event.specs.declared.denial.Denial.{Denial}
use Rattle.event.specs.Labels.{is_write}
use Rattle.execution.specs.Lists.{precedes}
use Rattle.execution.specs.Content.{Content, label_of, is_open}
use Rattle.execution.specs.Entries.{place, denial, entered}
use Rattle.execution.specs.Sound.{Sound}
use Rattle.execution.proofs.Tests.{both, left, right, either, yes_no, is_true}
use Rattle.execution.proofs.Lists.{precedes_first}
use Rattle.execution.proofs.Among.{write_among}
use Rattle.execution.proofs.Denied.{places}
use Rattle.execution.proofs.Placing.{place_sound}
use Rattle.cycles.specs.Listings.{Listing}
use Rattle.cycles.proofs.Walks.{return_cycle}
use Rattle.model.specs.Meaning.{Meaning, Rules}
use Rattle.boards.specs.Relations.{through}
use Rattle.boards.specs.Stepping.{steps_are_one_or_more}
use Rattle.verdict.specs.Fillings.{Fillable, FilledFirst}
use Rattle.verdict.proofs.Filling.{cycle_ends, nothing_left}
use Rattle.verdict.proofs.Trying.{tried_all, first_found}
use Rattle.known.proofs.Numbers.{every, some, each, every_at, some_at, each_at}
use Rattle.known.proofs.Listings.{lists, decided_listing, listing_acyclic}

-- nothing denies w its place after v
abbrev pub fits : Content → ℕ → ℕ → Bool
fits g w v = not (is_some (denial g (place w v)))

-- w is no open write from n on
abbrev pub none_at : ℕ → Content → ℕ → Bool
none_at n g w = not (leb n w && is_open g w)

-- w is the lowest open write from n on
abbrev pub next_open : ℕ → Content → ℕ → Bool
next_open n g w = leb n w && (is_open g w && every w (none_at n g))

-- the event comes back to itself in an order
abbrev pub returns : Meaning → Content → ℕ → ℕ → Bool
returns m g k a = through (m.pairs g k) (length g.events) a a

-- some order has a cycle
abbrev pub looped : Meaning → Content → Bool
looped m g = some m.orders (λ k. some (length g.events) (returns m g k))

-- wherever the first of these is placed, and then the next, some order has a cycle
abbrev pub refuted : Meaning → ℕ → List ℕ → Content → Bool
refuted m n [] g = looped m g
refuted m n (w ∷ ws) g = looped m g || (next_open n g w && each g.placed (λ v. not (fits g w v) || refuted m (suc w) ws (entered g (place w v))))

-- the list of an order is right
abbrev pub lists_order : Meaning → Content → List (List ℕ) → ℕ → Bool
lists_order m g ls k = lists (m.pairs g k) (length g.events) [] (get_or ls k [])

-- no write from n on is open, and these are the lists
abbrev pub served : Meaning → ℕ → Content → List (List ℕ) → Bool
served m n g ls = every (length g.events) (none_at n g) && every m.orders (lists_order m g ls)

-- open writes, each with the write that it is placed after
abbrev pub placed_at : Content → List (ℕ × ℕ) → Content
placed_at g [] = g
placed_at g (p ∷ ps) = placed_at (entered g (place p.0 p.1)) ps

abbrev pub writes_of : List (ℕ × ℕ) → List ℕ
writes_of [] = []
writes_of (p ∷ ps) = p.0 ∷ writes_of ps

-- each earlier place of w than after v is refuted
abbrev pub earlier_refuted : Meaning → List (ℕ × ℕ) → Content → ℕ → ℕ → ℕ → Bool
earlier_refuted m ps g w v u = not (fits g w u && precedes g.placed u v) || refuted m (suc w) (writes_of ps) (entered g (place w u))

abbrev pub best : Meaning → ℕ → List (ℕ × ℕ) → Content → List (List ℕ) → Bool
best m n [] g ls = served m n g ls
best m n (p ∷ ps) g ls =
    next_open n g p.0 && (fits g p.0 p.1
    && (each g.placed (earlier_refuted m ps g p.0 p.1) && best m (suc p.0) ps (entered g (place p.0 p.1)) ls))

pub none_is : (o : Option Denial) → T (not (is_some o)) → o ≡ None
none_is None h = refl
none_is (Some d) h = elim h [ ]

is_none : (o : Option Denial) → o ≡ None → T (not (is_some o))
is_none None e = tt
is_none (Some d) e = let z : ◌≡◌ {A = ℕ} 0 1 = cc in absurd (omega arith)

is_lowest : (n : ℕ) (g : Content) (w : ℕ) → T (next_open n g w) → (u : ℕ) → n ≤ u → T (is_open g u) → w ≤ u
is_lowest n g w h u l o = elim (cases_lt u w) [
  | inr k ↦ k
  | inl k ↦
      let below = every_at w (none_at n g) (right (is_open g w) _ (right (leb n w) _ h)) u k in
      absurd (yes_no (leb n u && is_open g u) below (both (leb n u) _ (le→leb n u l) o))
]

module _ (m : Meaning) (rules : Rules m) where
  looped_ends : (n : ℕ) (g : Content) → Sound g → T (looped m g) → Fillable m n g → ⊥
  looped_ends n g s h =
      let order = some_at m.orders (λ k. some (length g.events) (returns m g k)) h in
      let k = order.0 in
      let event = some_at (length g.events) (returns m g k) order.2 in
      let a = event.0 in
      let plus = (steps_are_one_or_more g (m.pairs g k) (λ x y j. (rules.inside g s k x y j).1) a a).0 (is_true (returns m g k a) event.2) in
      let round = return_cycle (m.pairs g k) a plus in
      cycle_ends m rules n g s k order.1 round.0 round.1

  pub refuted_ends : (n : ℕ) (ws : List ℕ) (g : Content) → Sound g → T (refuted m n ws g) → Fillable m n g → ⊥
  refuted_ends n [] g s h f = looped_ends n g s h f
  refuted_ends n (w ∷ ws) g s h f = elim (either (looped m g) _ h) [
    | inl k ↦ looped_ends n g s k f
    | inr k ↦
        let next = left (next_open n g w) _ k in
        let tried = each_at g.placed (λ v. not (fits g w v) || refuted m (suc w) ws (entered g (place w v))) (right (next_open n g w) _ k) in
        tried_all n g s w (leb→le n w (left (leb n w) _ next)) (left (is_open g w) _ (right (leb n w) _ next)) (is_lowest n g w next) m
        (λ v fine. elim (either (not (fits g w v)) _ (tried v (places g w v fine).placed)) [
          | inl unfit ↦ absurd (yes_no (fits g w v) unfit (is_none (denial g (place w v)) fine))
          | inr j ↦ refuted_ends (suc w) ws (entered g (place w v)) (place_sound g s w v fine) j
        ]) f
  ]

  -- the first placement, and its lists
  pub record Best (n : ℕ) (g h : Content) (ls : List (List ℕ)) : Type 0 where
    pub first : FilledFirst m n g h
    pub listed : (k : ℕ) → k < m.orders → Listing (m.pairs h k) (length h.events) (get_or ls k [])

  module _ (n : ℕ) (g : Content) (s : Sound g) (ls : List (List ℕ)) (h : T (served m n g ls)) where
    none_open : (w : ℕ) → n ≤ w → T (is_open g w) → ⊥
    none_open w l o =
        let none = every_at (length g.events) (none_at n g) (left (every (length g.events) (none_at n g)) _ h) in
        yes_no (leb n w && is_open g w) (none w (write_among g w (left (is_write (label_of g w)) _ o))) (both (leb n w) _ (le→leb n w l) o)

    all_listed : (k : ℕ) → k < m.orders → Listing (m.pairs g k) (length g.events) (get_or ls k [])
    all_listed k l =
        decided_listing (m.pairs g k) (length g.events) (get_or ls k [])
        (every_at m.orders (lists_order m g ls) (right (every (length g.events) (none_at n g)) _ h) k l)

    served_best : Best n g g ls
    served_best = record {
      first = nothing_left m n g s none_open (λ k l. listing_acyclic (m.pairs g k) (length g.events) (rules.inside g s k) (get_or ls k []) (all_listed k l));
      listed = all_listed;
    }

  pub is_best : (n : ℕ) (ps : List (ℕ × ℕ)) (g : Content) → Sound g → (ls : List (List ℕ)) → T (best m n ps g ls) → Best n g (placed_at g ps) ls
  is_best n [] g s ls h = served_best n g s ls h
  is_best n (p ∷ ps) g s ls h =
      let w = p.0 in
      let v = p.1 in
      let next = left (next_open n g w) _ h in
      let after_next = right (next_open n g w) _ h in
      let fine = none_is (denial g (place w v)) (left (fits g w v) _ after_next) in
      let after-fits = right (fits g w v) _ after_next in
      let earlier = each_at g.placed (earlier_refuted m ps g w v) (left (each g.placed (earlier_refuted m ps g w v)) _ after-fits) in
      let rest = right (each g.placed (earlier_refuted m ps g w v)) _ after-fits in
      let below = is_best (suc w) ps (entered g (place w v)) (place_sound g s w v fine) ls rest in
      record {
        first =
            first_found n g s w (leb→le n w (left (leb n w) _ next)) (left (is_open g w) _ (right (leb n w) _ next)) (is_lowest n g w next)
            m v (placed_at (entered g (place w v)) ps) fine
            (λ u fit before f. elim (either (not (fits g w u && precedes g.placed u v)) _ (earlier u (precedes_first g.placed u v before))) [
              | inl other ↦ yes_no (fits g w u && precedes g.placed u v) other (both (fits g w u) _ (is_none (denial g (place w u)) fit) before)
              | inr j ↦ refuted_ends (suc w) (writes_of ps) (entered g (place w u)) (place_sound g s w u fit) j f
            ])
            below.first;
        listed = below.listed;
      }
