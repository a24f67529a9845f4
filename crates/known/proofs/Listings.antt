-- Lists of all events that are found right by computing, and relations that are found without a cycle by such a list.
use Rattle.std.proofs.Common.{ℕ, zero, suc, Bool, not, ◌&&◌, ◌||◌, T, ltb, List, [], ◌∷◌, ◌++◌, Some, None, sym, subst, inl, inr, append-nil, ltb→lt, lt→ltb}
use lib.Seq.{append_snoc}
use Rattle.std.proofs.lemmas.Bool.{cases_lt}
use Rattle.execution.proofs.Tests.{both, left, right, either, no, yes_no}
use Rattle.cycles.specs.Cycles.{Acyclic}
use Rattle.cycles.specs.Listings.{stands, among, Ready, Listing}
use Rattle.cycles.proofs.Walks.{Inside, larger_keeps_cycles}
use Rattle.cycles.proofs.Listed.{Begun, begun_none, begun_more, begun_all, listed_is_acyclic}
use Rattle.verdict.specs.Numbers.{lowest}
use Rattle.verdict.proofs.Lists.{or_left, or_right, test}
use Rattle.known.proofs.Numbers.{every, every_at, every_from}

module _ (r : ℕ → ℕ → Bool) (n : ℕ) where
  -- p is seen if it precedes a
  abbrev pub seen_before : List ℕ → ℕ → ℕ → Bool
  seen_before seen a p = not (r p a) || stands seen p

  abbrev pub ready : List ℕ → ℕ → Bool
  ready seen a = ltb a n && (not (stands seen a) && every n (seen_before seen a))

  abbrev pub unready : List ℕ → ℕ → Bool
  unready seen a = not (ready seen a)

  -- what is seen goes on with these to a list of all events
  abbrev pub lists : List ℕ → List ℕ → Bool
  lists seen [] = every n (stands seen)
  lists seen (x ∷ xs) = ready seen x && (every x (unready seen) && lists (seen ++ (x ∷ [])) xs)

  -- the lowest that is ready, again and again
  abbrev pub listed : ℕ → List ℕ → List ℕ
  listed zero seen = []
  listed (suc k) seen = elim (lowest n (ready seen)) [ Some a ↦ a ∷ listed k (seen ++ (a ∷ [])) | None ↦ [] ]

  abbrev pub acyclic : Bool
  acyclic = lists [] (listed n [])

  is_ready : (seen : List ℕ) (a : ℕ) → T (ready seen a) → Ready r n seen a
  is_ready seen a h =
      let rest = right (ltb a n) _ h in
      record {
        inside = ltb→lt a n (left (ltb a n) _ h);
        new = yes_no (stands seen a) (left (not (stands seen a)) _ rest);
        preceded = λ p k.
            let before = every_at n (seen_before seen a) (right (not (stands seen a)) _ rest) p (ltb→lt p n (left (ltb p n) _ k)) in
            elim (either (not (r p a)) (stands seen p) before) [
              | inl q ↦ absurd (yes_no (r p a) q (right (ltb a n) _ (right (ltb p n) _ k)))
              | inr q ↦ q
            ];
      }

  ready_is : (seen : List ℕ) (a : ℕ) → Ready r n seen a → T (ready seen a)
  ready_is seen a h =
      both (ltb a n) _ (lt→ltb a n h.inside) (both (not (stands seen a)) _ (no (stands seen a) h.new) (every_from n (seen_before seen a) (λ p l. elim (test (r p a)) [
        | inl q ↦ or_right (not (r p a)) _ (h.preceded p (both (ltb p n) _ (lt→ltb p n l) (both (ltb a n) _ (lt→ltb a n h.inside) q)))
        | inr q ↦ or_left (not (r p a)) _ (no (r p a) q)
      ])))

  goes_on : (seen xs : List ℕ) → Begun r n seen → T (lists seen xs) → Listing r n (seen ++ xs)
  goes_on seen [] f h = subst (λ (l : List ℕ). Listing r n l) (sym (append-nil seen)) (begun_all r n seen f (every_at n (stands seen) h))
  goes_on seen (x ∷ xs) f h =
      let rest = right (ready seen x) _ h in
      let more = begun_more r n seen x f (is_ready seen x (left (ready seen x) _ h)) (λ b k. elim (cases_lt b x) [
        | inr l ↦ l
        | inl l ↦ absurd (yes_no (ready seen b) (every_at x (unready seen) (left (every x (unready seen)) _ rest) b l) (ready_is seen b k))
      ]) in
      subst (λ (l : List ℕ). Listing r n l) (append_snoc seen x xs) (goes_on (seen ++ (x ∷ [])) xs more (right (every x (unready seen)) _ rest))

  pub decided_listing : (xs : List ℕ) → T (lists [] xs) → Listing r n xs
  decided_listing xs h = goes_on [] xs (begun_none r n) h

  -- what is listed has no cycle
  pub listing_acyclic : Inside n r → (xs : List ℕ) → Listing r n xs → Acyclic r
  listing_acyclic inside xs l ys round =
      listed_is_acyclic r n xs l ys (larger_keeps_cycles r (among n r) (λ a b h.
      let k = inside a b h in
      both (ltb a n) _ (lt→ltb a n k.0) (both (ltb b n) _ (lt→ltb b n k.1) h)) ys round)

  pub decided_acyclic : Inside n r → T acyclic → Acyclic r
  decided_acyclic inside h = listing_acyclic inside (listed n []) (decided_listing (listed n []) h)
