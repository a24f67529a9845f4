-- The entries: when each is denied, and what it makes of a graph.
use Rattle.std.specs.Prelude.{ℕ, Bool, cond, not, ◌&&◌, ◌||◌, [], ◌∷◌, ◌++◌, length, is_some, Some, None, Option, nat_le, nat_lt, slice_set}
use Rattle.event.specs.declared.event.Kind.{Kind}
use Rattle.event.specs.declared.event.Arguments.{Arguments}
use Rattle.event.specs.declared.denial.Denial.{Denial}
use Rattle.event.specs.declared.denial.Denial.TheVariants.{Range, Mode, Full, Kind as OtherKind, Site, Value, Twice, Loose}
use Rattle.event.specs.Labels.{allows, accesses, labelled, agree, is_read, is_write, value_read, value_written}
use Rattle.event.specs.Denials.{unless}
use Rattle.execution.specs.Lists.{holds, insert_after}
use Rattle.execution.specs.Content.{Content, label_of, source_of, same_location}
use Rattle.execution.specs.Sound.{Sound, Within}

pub data Entry : Type 0 where
  record_event : Kind → Arguments → Entry
  link : (read source : ℕ) → Entry
  place : (write after : ℕ) → Entry

-- an event of that number stands
abbrev pub stands : Content → ℕ → Bool
stands g a = nat_lt a (length g.events)

-- why an entry is denied: the first test that fails
abbrev pub denial : Content → Entry → Option Denial
denial g (record_event kind x) =
    unless (nat_le 1 x.thread && nat_le x.thread g.threads) (Range 1) (
    unless (not (accesses kind) || nat_lt x.location g.locations) (Range 2) (
    unless (allows kind x.mode) Mode (
    unless (nat_lt (length g.events) 256) Full
    None)))
denial g (link r w) =
    unless (stands g r) (Range 1) (
    unless (stands g w) (Range 2) (
    unless (is_read (label_of g r)) (OtherKind 1) (
    unless (is_write (label_of g w)) (OtherKind 2) (
    unless (same_location g w r) Site (
    unless (agree (value_written (label_of g w)) (value_read (label_of g r))) Value (
    unless (not (is_some (source_of g r))) Twice
    None))))))
denial g (place w v) =
    unless (stands g w) (Range 1) (
    unless (stands g v) (Range 2) (
    unless (is_write (label_of g w)) (OtherKind 1) (
    unless (is_write (label_of g v)) (OtherKind 2) (
    unless (same_location g v w) Site (
    unless (not (holds g.placed w)) Twice (
    unless (holds g.placed v) Loose
    None))))))

-- what an entry that is not denied makes of a graph
abbrev pub entered : Content → Entry → Content
entered g (record_event kind x) = record { threads = g.threads; locations = g.locations; events = g.events ++ (record { thread = x.thread; label = labelled kind x } ∷ []); sources = g.sources ++ (None ∷ []); placed = g.placed }
entered g (link r w) = record { threads = g.threads; locations = g.locations; events = g.events; sources = slice_set g.sources r (Some w); placed = g.placed }
entered g (place w v) = record { threads = g.threads; locations = g.locations; events = g.events; sources = g.sources; placed = insert_after v w g.placed }

-- one entry's step: a denied one changes nothing
abbrev pub step : Content → Entry → Content
step g e = cond (is_some (denial g e)) g (entered g e)

-- every step from a sound graph keeps it sound and only adds to it
abbrev pub StepsKeepAndGrow : Type 0
StepsKeepAndGrow = (g : Content) → Sound g → (e : Entry) → Sound (step g e) × Within g (step g e)
