-- What each entry's writes to the tables make of a graph's content.
use Rattle.std.proofs.Common.{◌≡◌, ℕ, ◌+◌, ◌<◌, ◌≤◌, not, eqb, List, [], ◌∷◌, ◌++◌, length, set, Some, None, Option, sym, ap, ◌∙◌, subst, ap₂, inl, inr, add-one, arith, eqb→eq}
use mathlib.Core.Logic.{∥∥₁_map}
use Rattle.std.specs.List.{insert}
use Rattle.graph.proofs.Behind.{behind_is_after}
use Rattle.event.specs.declared.event.Kind.{Kind}
use Rattle.event.specs.declared.event.Label.{Label}
use Rattle.event.specs.declared.event.Arguments.{Arguments}
use Rattle.event.specs.declared.event.Event.{Event}
use Rattle.graph.specs.declared.tables.Graph.{Graph}
use Rattle.event.specs.Labels.{labelled}
use Rattle.execution.specs.Lists.{holds, FirstAt}
use Rattle.execution.specs.Content.{Content}
use Rattle.execution.specs.Sound.{Sound}
use Rattle.execution.specs.Entries.{Entry, denial, entered, step, record_event, link, place}
use Rattle.graph.specs.View.{view}
use Rattle.execution.proofs.Tests.{both, either, no}
use Rattle.execution.proofs.Lists.{few_distinct}
use Rattle.execution.proofs.Among.{placed_among}
use Rattle.graph.proofs.Soundness.{sound_of}
use Rattle.execution.proofs.Denied.{Places, places}
use Rattle.execution.proofs.Steps.{entered_keeps}

-- an entry that is not denied is its step
pub not_denied : (g : Content) (e : Entry) → None ≡ denial g e → entered g e ≡ step g e
not_denied g e h = cc

-- tables that hold what an entry makes are sound
pub entered_sound : (g : Graph) (e : Entry) (h : Content) → None ≡ denial (view g) e → entered (view g) e ≡ h → ∥ Sound h ∥₁
entered_sound g e h n i = ∥∥₁_map g.sound (λ s. subst Sound i (entered_keeps (view g) s e (sym n)).0)

-- what an entry leaves in the tables
pub recorded : (g : Graph) (kind : Kind) (x : Arguments) (e : Event) (es : List Event) (ss : List (Option ℕ)) → e.thread ≡ x.thread → e.label ≡ labelled kind x → es ≡ (view g).events ++ e ∷ [] → ss ≡ (view g).sources ++ None ∷ [] →
    entered (view g) (record_event kind x) ≡ record { threads = g.threads; locations = g.locations; events = es; sources = ss; placed = (view g).placed }
recorded g kind x e es ss t l i j =
    let same : e ≡ record { thread = x.thread; label = labelled kind x } = ap₂ (λ (n : ℕ) (y : Label). record { thread = n; label = y }) t l in
    ap₂ (λ (es : List Event) (ss : List (Option ℕ)). record { threads = g.threads; locations = g.locations; events = es; sources = ss; placed = (view g).placed }) (ap (λ (y : Event). (view g).events ++ y ∷ []) (sym same) ∙ sym i) (sym j)

pub linked : (g : Graph) (r w : ℕ) (ss : List (Option ℕ)) → ss ≡ set (view g).sources r (Some w) →
    entered (view g) (link r w) ≡ record { threads = g.threads; locations = g.locations; events = (view g).events; sources = ss; placed = (view g).placed }
linked g r w ss i = ap (λ (ss : List (Option ℕ)). record { threads = g.threads; locations = g.locations; events = (view g).events; sources = ss; placed = (view g).placed }) (sym i)

pub placed : (g : Graph) (w v at : ℕ) (ps : List ℕ) → FirstAt (view g).placed v at → ps ≡ insert (view g).placed (at + 1) w →
    entered (view g) (place w v) ≡ record { threads = g.threads; locations = g.locations; events = (view g).events; sources = (view g).sources; placed = ps }
placed g w v at ps f i = ap (λ (ps : List ℕ). record { threads = g.threads; locations = g.locations; events = (view g).events; sources = (view g).sources; placed = ps })
    (sym (i ∙ ap (λ (n : ℕ). insert (view g).placed n w) (add-one at) ∙ behind_is_after v w (view g).placed at f))

module _ (g : Graph) (w v : ℕ) (fits : None ≡ denial (view g) (place w v)) where
  place_passed : Places (view g) w v
  place_passed = places (view g) w v (sym fits)

  -- the placed writes and the new one are distinct events
  pub place_room : length (view g).placed < 256
  place_room =
      let s = sound_of g in
      let all : length (w ∷ (view g).placed) ≤ length (view g).events = few_distinct (length (view g).events) (w ∷ (view g).placed)
      (both (not (holds (view g).placed w)) _ (no (holds (view g).placed w) place_passed.new) s.placed_once)
      (λ a h. elim (either (eqb w a) _ h) [ inl i ↦ subst (λ (x : ℕ). x < length (view g).events) (eqb→eq w a i) place_passed.write_stands | inr i ↦ placed_among (view g) s a i ]) in
      omega (arith, all, s.few_events)

  pub place_write : w < 256
  place_write = omega (arith, place_passed.write_stands, (sound_of g).few_events)
