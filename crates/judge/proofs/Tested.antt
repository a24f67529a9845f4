-- What tests of an event tell of a graph.
use Rattle.std.proofs.Common.{◌≡◌, ℕ, ◌+◌, ◌<◌, ◌≤◌, Bool, false, not, ◌&&◌, List, length, get_or, drop, filter, Some, sym, ap, ◌∙◌, length-drop, arith}
use Rattle.std.proofs.lemmas.Bool.{lt-ltb, le-ltb}
use Rattle.std.proofs.lemmas.List.{get_or-drop}
use Rattle.event.specs.declared.event.Event.{Event}
use Rattle.event.specs.Labels.{no_event, is_write, agree, location}
use Rattle.execution.specs.Content.{Content, initial}
use Rattle.execution.proofs.Tests.{left, yes_no, truth}
use Rattle.execution.specs.Sound.{Sound}
use Rattle.verdict.specs.Numbers.{count}
use Rattle.verdict.specs.Denials.{writes_to}
use Rattle.judge.specs.Widths.{recorded_write, recorded_writes}
use Rattle.judge.proofs.Counts.{count_none, counted_by}

-- initial writes are not counted
pub none_initial : (g : Content) (l n : ℕ) → n ≡ g.locations → 0 ≡ count n (recorded_write g l)
none_initial g l n e = sym (count_none n (recorded_write g l) (λ a k h. yes_no (initial g a) (left (not (initial g a)) _ h) (truth (initial g a) (lt-ltb a g.locations (omega arith)))))

counted : (b x : Bool) → b ≡ false → (not b && x) ≡ x
counted b x e = grind arith

-- past them every write is
pub recorded_here : (g : Content) (l a : ℕ) → g.locations ≤ a → recorded_write g l a ≡ writes_to g l a
recorded_here g l a k = counted (initial g a) (writes_to g l a) (le-ltb a g.locations k)

-- so those past the initial writes are all that count
pub recorded_past : (g : Content) → Sound g → (events : List Event) → events ≡ g.events → (l k : ℕ) → k ≡ g.locations
    → length (filter (λ (x : Event). is_write x.label && agree (location x.label) (Some l)) (drop k events)) ≡ recorded_writes g l
recorded_past g s events all l k e =
    let q : Event → Bool = λ x. is_write x.label && agree (location x.label) (Some l) in
    let first : k ≤ length events = omega (arith, ap length all, s.opened, e) in
    let here : (i : ℕ) → i < length (drop k events) → recorded_write g l (k + i) ≡ q (get_or (drop k events) i no_event) =
    λ i b. recorded_here g l (k + i) (omega arith) ∙ ap q (sym (get_or-drop k events i no_event ∙ ap (λ (es : List Event). get_or es (k + i) no_event) all)) in
    let counted = counted_by q (recorded_write g l) no_event (drop k events) k here in
    let end : k + length (drop k events) ≡ length g.events = omega (arith, length-drop k events, ap length all) in
    omega (arith, counted, none_initial g l k e, ap (λ (n : ℕ). count n (recorded_write g l)) end)
