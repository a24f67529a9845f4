-- Answers that are found right by computing.
use Rattle.std.proofs.Common.{◌≡◌, ℕ, Bool, true, false, cond, not, ◌&&◌, T, ltb, leb, List, [], ◌∷◌, length, is_some, Some, None, Option, sym, refl, subst, le→leb, ltb→lt, leb→le}
use Rattle.event.specs.declared.denial.Denial.{Denial}
use Rattle.event.specs.declared.denial.Denial.TheVariants.{Sheet, Wide}
use Rattle.execution.specs.Content.{Content}
use Rattle.event.specs.Sizes.{one_to_sixteen, size_denial}
use Rattle.execution.specs.Entries.{Entry, step}
use Rattle.event.specs.Denials.{unless, or_else}
use Rattle.execution.specs.Sound.{Sound}
use Rattle.execution.proofs.Tests.{left, right}
use Rattle.execution.proofs.Denied.{passed, past}
use Rattle.execution.proofs.Opening.{opening_sound}
use Rattle.execution.proofs.Steps.{steps_keep_and_grow}
use Rattle.model.specs.Meaning.{Meaning, Rules}
use Rattle.verdict.specs.Shown.{modification_orders}
use Rattle.verdict.specs.Denials.{unread, too_wide}
use Rattle.verdict.specs.Answers.{Answer, allowed, cyclic, no_placement, denied, Found, RightUnless}
use Rattle.verdict.proofs.Filling.{filled_first_all, none_allowed}
use Rattle.known.specs.Making.{Making, after_entries, none_denied, opened_as, made, Case, Known}
use Rattle.known.proofs.Numbers.{every, every_at}
use Rattle.known.proofs.Cycles.{first_cycle, decided_cycle}
use Rattle.known.proofs.Listings.{acyclic, decided_acyclic}
use Rattle.known.proofs.Placements.{none_is, refuted, refuted_ends, best, is_best, placed_at, writes_of}

-- an order is free of cycles
abbrev pub free : Meaning → Content → ℕ → Bool
free m g k = acyclic (m.pairs g k) (length g.events)

-- the answer, with the open writes as they are placed or to be tried
abbrev pub Decided : Meaning → Content → List (ℕ × ℕ) → Answer → Type 0
Decided m g ps (allowed lists orders) = T (best m 0 ps g lists) × (length lists ≡ m.orders) × (orders ≡ modification_orders (placed_at g ps))
Decided m g ps (cyclic k xs) = T (ltb k m.orders) × T (every k (free m g)) × T (first_cycle (m.pairs g k) (length g.events) xs)
Decided m g ps no_placement = T (every m.orders (free m g)) × T (refuted m 0 (writes_of ps) g)
Decided m g ps (denied d) = ⊥

module _ (m : Meaning) (rules : Rules m) (g : Content) (s : Sound g) where
  pub decided_found : (ps : List (ℕ × ℕ)) (a : Answer) → Decided m g ps a → Found m g a
  decided_found ps (allowed lists orders) h =
      let b = is_best m rules 0 ps g s lists h.0 in
      (placed_at g ps, record { placed = filled_first_all m g (placed_at g ps) b.first; as_many = h.1; listed = b.listed; ordered = h.2 })
  decided_found ps (cyclic k xs) h = (
    ltb→lt k m.orders h.0,
    λ j l. decided_acyclic (m.pairs g j) (length g.events) (rules.inside g s j) (every_at k (free m g) h.1 j l),
    decided_cycle (m.pairs g k) (length g.events) (rules.inside g s k) xs h.2,
  )
  decided_found ps no_placement h = (
    λ k l. decided_acyclic (m.pairs g k) (length g.events) (rules.inside g s k) (every_at m.orders (free m g) h.0 k l),
    none_allowed m g (refuted_ends m rules 0 (writes_of ps) g s h.1),
  )
  decided_found ps (denied d) h = h

-- nothing denies a judge with a long enough sheet, where every read has its source and the graph is not too wide
fine : (closed : Bool) (o : Option Denial) (long narrow : Bool) → T (not (is_some o)) → T long → T narrow
    → or_else (cond closed o None) (unless long Sheet (unless narrow Wide None)) ≡ None
fine true None true true e l w = refl
fine true None true false e l w = elim w [ ]
fine true None false narrow e l w = elim l [ ]
fine true (Some d) long narrow e l w = elim e [ ]
fine false o true true e l w = refl
fine false o true false e l w = elim w [ ]
fine false o false narrow e l w = elim l [ ]

entries_sound : (g : Content) → Sound g → (es : List Entry) → Sound (after_entries g es)
entries_sound g s [] = s
entries_sound g s (e ∷ es) = entries_sound (step g e) (steps_keep_and_grow g s e).0 es

made_sound : (x : Making) → size_denial x.threads x.locations ≡ None → Sound (made x)
made_sound x h =
    let threads = passed (one_to_sixteen x.threads) _ _ h in
    let locations = passed (one_to_sixteen x.locations) _ _ (past (one_to_sixteen x.threads) _ _ h) in
    entries_sound (opened_as x)
    (opening_sound x.threads x.locations
    (leb→le 1 x.threads (left (leb 1 x.threads) _ threads))
    (leb→le x.threads 16 (right (leb 1 x.threads) _ threads))
    (leb→le 1 x.locations (left (leb 1 x.locations) _ locations))
    (leb→le x.locations 16 (right (leb 1 x.locations) _ locations)))
    x.entries

-- nothing is denied on the way to the graph
abbrev pub opens_and_enters : Making → Bool
opens_and_enters x = not (is_some (size_denial x.threads x.locations)) && none_denied (opened_as x) x.entries

-- nor a judge on it
abbrev pub judgeable : Content → Bool
judgeable g = not (is_some (unread g)) && not (too_wide g)

-- a case that is decided is known
pub known_by : (c : Case) → Rules c.model → (ps : List (ℕ × ℕ)) → T (opens_and_enters c.graph) → T (judgeable (made c.graph))
    → Decided c.model (made c.graph) ps c.answer → Known c
known_by c rules ps h j decided = record {
  opens = opens;
  enters = right (not (is_some (size_denial c.graph.threads c.graph.locations))) _ h;
  answers = λ closed n l.
      subst (λ (o : Option Denial). RightUnless o c.model g c.answer)
      (sym (fine closed (unread g) (leb 1280 n) (not (too_wide g)) (left (not (is_some (unread g))) _ j) (le→leb 1280 n l) (right (not (is_some (unread g))) _ j)))
      (decided_found c.model rules g (made_sound c.graph opens) ps c.answer decided);
}
  where
    g : Content
    g = made c.graph

    opens : size_denial c.graph.threads c.graph.locations ≡ None
    opens = none_is (size_denial c.graph.threads c.graph.locations) (left (not (is_some (size_denial c.graph.threads c.graph.locations))) _ h)
