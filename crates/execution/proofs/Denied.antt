-- What an entry that is not denied has passed.
use Rattle.std.proofs.Common.{◌≡◌, ℕ, ◌<◌, ◌≤◌, Bool, true, false, not, ◌&&◌, ◌||◌, T, ltb, leb, length, is_some, None, Option, arith, ltb→lt, leb→le}
use Rattle.event.specs.declared.event.Kind.{Kind}
use Rattle.event.specs.declared.event.Arguments.{Arguments}
use Rattle.event.specs.declared.denial.Denial.{Denial}
use Rattle.event.specs.Labels.{allows, accesses, agree, is_read, is_write, value_read, value_written}
use Rattle.execution.specs.Lists.{holds}
use Rattle.execution.specs.Content.{Content, label_of, source_of, same_location}
use Rattle.execution.specs.Entries.{denial, stands, record_event, link, place}
use Rattle.event.specs.Denials.{unless}
use Rattle.execution.proofs.Tests.{left, right, yes_no}

pub passed : (b : Bool) (d : Denial) (rest : Option Denial) → unless b d rest ≡ None → T b
passed true d rest h = tt
passed false d rest h = let z : ◌≡◌ {A = ℕ} 0 1 = cc in absurd (omega arith)

pub past : (b : Bool) (d : Denial) (rest : Option Denial) → unless b d rest ≡ None → rest ≡ None
past true d rest h = h
past false d rest h = cc

pub record Records (g : Content) (kind : Kind) (x : Arguments) : Type 0 where
  pub some_thread : 1 ≤ x.thread
  pub its_thread : x.thread ≤ g.threads
  pub its_location : T (not (accesses kind) || ltb x.location g.locations)
  pub its_mode : T (allows kind x.mode)
  pub room : length g.events < 256

pub records : (g : Content) (kind : Kind) (x : Arguments) → denial g (record_event kind x) ≡ None → Records g kind x
records g kind x h =
    let one : Bool = leb 1 x.thread && leb x.thread g.threads in
    let two : Bool = not (accesses kind) || ltb x.location g.locations in
    let h₁ = past one _ _ h in
    let h₂ = past two _ _ h₁ in
    let h₃ = past (allows kind x.mode) _ _ h₂ in
    record {
      some_thread = leb→le 1 x.thread (left (leb 1 x.thread) _ (passed one _ _ h));
      its_thread = leb→le x.thread g.threads (right (leb 1 x.thread) _ (passed one _ _ h));
      its_location = passed two _ _ h₁;
      its_mode = passed (allows kind x.mode) _ _ h₂;
      room = ltb→lt (length g.events) 256 (passed (ltb (length g.events) 256) _ _ h₃);
    }

pub record Links (g : Content) (r w : ℕ) : Type 0 where
  pub read_stands : r < length g.events
  pub source_stands : w < length g.events
  pub reads : T (is_read (label_of g r))
  pub writes : T (is_write (label_of g w))
  pub there : T (same_location g w r)
  pub value : T (agree (value_written (label_of g w)) (value_read (label_of g r)))
  pub fresh : T (not (is_some (source_of g r)))

pub links : (g : Content) (r w : ℕ) → denial g (link r w) ≡ None → Links g r w
links g r w h =
    let value : Bool = agree (value_written (label_of g w)) (value_read (label_of g r)) in
    let h₁ = past (stands g r) _ _ h in
    let h₂ = past (stands g w) _ _ h₁ in
    let h₃ = past (is_read (label_of g r)) _ _ h₂ in
    let h₄ = past (is_write (label_of g w)) _ _ h₃ in
    let h₅ = past (same_location g w r) _ _ h₄ in
    let h₆ = past value _ _ h₅ in
    record {
      read_stands = ltb→lt r (length g.events) (passed (stands g r) _ _ h);
      source_stands = ltb→lt w (length g.events) (passed (stands g w) _ _ h₁);
      reads = passed (is_read (label_of g r)) _ _ h₂;
      writes = passed (is_write (label_of g w)) _ _ h₃;
      there = passed (same_location g w r) _ _ h₄;
      value = passed value _ _ h₅;
      fresh = passed (not (is_some (source_of g r))) _ _ h₆;
    }

pub record Places (g : Content) (w v : ℕ) : Type 0 where
  pub write_stands : w < length g.events
  pub after_stands : v < length g.events
  pub writes : T (is_write (label_of g w))
  pub there : T (same_location g v w)
  pub new : T (holds g.placed w) → ⊥
  pub placed : T (holds g.placed v)

pub places : (g : Content) (w v : ℕ) → denial g (place w v) ≡ None → Places g w v
places g w v h =
    let h₁ = past (stands g w) _ _ h in
    let h₂ = past (stands g v) _ _ h₁ in
    let h₃ = past (is_write (label_of g w)) _ _ h₂ in
    let h₄ = past (is_write (label_of g v)) _ _ h₃ in
    let h₅ = past (same_location g v w) _ _ h₄ in
    let h₆ = past (not (holds g.placed w)) _ _ h₅ in
    record {
      write_stands = ltb→lt w (length g.events) (passed (stands g w) _ _ h);
      after_stands = ltb→lt v (length g.events) (passed (stands g v) _ _ h₁);
      writes = passed (is_write (label_of g w)) _ _ h₂;
      there = passed (same_location g v w) _ _ h₄;
      new = yes_no (holds g.placed w) (passed (not (holds g.placed w)) _ _ h₅);
      placed = passed (holds g.placed v) _ _ h₆;
    }
