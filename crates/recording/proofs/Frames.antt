-- Which lines may stand where.
use Rattle.std.proofs.Common.{◌≡◌, ℕ, ◌<◌, ◌≤◌, Bool, true, false, leb, List, Some, None, Ok, Err, Result, sym, refl, ap, ◌∙◌, MatchResult}
use Rattle.std.proofs.lemmas.Bool.{le-leb, lt-leb, and_right, false≢true}
use Rattle.event.specs.declared.denial.Denial.{Denial}
use Rattle.execution.specs.Content.{Content, opening}
use Rattle.recording.specs.declared.header.Header.{Header as Head}
use Rattle.recording.specs.declared.layout.LineKind.{LineKind}
use Rattle.recording.specs.declared.layout.LineKind.TheVariants.{Header, Event, Link, Place, End}
use Rattle.recording.specs.Layout.{kind, rest, field_denial, numbers}
use Rattle.recording.specs.Headings.{Heading, heading, heading_denial, heading_of}
use Rattle.recording.specs.Meaning.{Stage, unopened, taking, due, in_frame, is_header, own_denial}
use Rattle.recording.specs.OneLine.{Heads, Enters, Applies, stage}
use Rattle.recording.proofs.Steps.{own_line, advances}

not_header : (k : LineKind) → (k ≡ Header → ⊥) → is_header k ≡ false
not_header Header h = absurd (h refl)
not_header (Event k) h = refl
not_header Link h = refl
not_header Place h = refl
not_header End h = refl

pub past_last : (n : ℕ) (s : Stage) (k : LineKind) → 1024 < n → in_frame n s k ≡ false
past_last n s k h = and_right (due s k) (leb n 1024) (lt-leb n 1024 h)

pub after_end : (n : ℕ) (e : Bool) (h : Heading) (g : Content) (k : LineKind) → e ≡ true → in_frame n (stage e h g) k ≡ false
after_end n e h g k is = rw is

pub header_again : (n : ℕ) (e : Bool) (h : Heading) (g : Content) (k : LineKind) → e ≡ false → k ≡ Header → in_frame n (stage e h g) k ≡ false
header_again n e h g k is is-h = rw (is, is-h)

pub header_missing : (n : ℕ) (k : LineKind) → (k ≡ Header → ⊥) → in_frame n unopened k ≡ false
header_missing n k h = rw (not_header k h)

pub header_first : (n : ℕ) (k : LineKind) → n ≤ 1024 → k ≡ Header → in_frame n unopened k ≡ true
header_first n k low h = rw (h, le-leb n 1024 low)

pub entry_after : (n : ℕ) (e : Bool) (h : Heading) (g : Content) (k : LineKind) → n ≤ 1024 → e ≡ false → (k ≡ Header → ⊥) → in_frame n (stage e h g) k ≡ true
entry_after n e h g k low is no-h = rw (is, not_header k no-h, le-leb n 1024 low)

module _ (n : ℕ) (line cut : List ℕ) (k : LineKind) (f : List ℕ) (low : n ≤ 1024) (known : kind line ≡ Some k) (same : cut ≡ rest line) (good : field_denial k cut ≡ None) (read : f ≡ numbers k cut) where
  -- an entry in form, as the graph takes it
  pub enters : (e : Bool) (g g' : Content) (r : Result Bool Denial) → e ≡ false → (k ≡ Header → ⊥) → Applies k f g g' r → Enters n e line g g' r
  unfolding own_denial
  enters true g g' r is no-h a = absurd (false≢true (sym is))
  enters false g g' (Ok e') is no-h a = λ h. (own_line n (taking h g) line k cut known same f (entry_after n false h g k low is no-h) good read ∙ a.0, advances n (taking h g) line k cut known same f read ∙ a.1 h)
  enters false g g' (Err d) is no-h a = (a.1, λ h. own_line n (taking h g) line k cut known same f (entry_after n false h g k low is no-h) good read ∙ a.0)

  -- the H line in form, as a header takes it
  pub heads : (r : Result Head Denial) → k ≡ Header → MatchResult r (λ h. (heading_denial (heading f) ≡ None) × (heading_of h ≡ heading f)) (λ d. heading_denial (heading f) ≡ Some d) → Heads n line r
  unfolding own_denial
  heads (Ok h) is a = (own_line n unopened line k cut known same f (header_first n k low is) good read ∙ a.0, advances n unopened line k cut known same f read ∙ ap (λ (x : Heading). taking x (opening x.threads x.locations)) (sym a.1))
  heads (Err d) is a = own_line n unopened line k cut known same f (header_first n k low is) good read ∙ a
