-- When a judge is denied.
use Rattle.std.specs.Prelude.{ℕ, Bool, cond, not, ◌&&◌, ◌||◌, length, is_some, Some, None, Option, nat_le, nat_lt}
use Rattle.event.specs.declared.denial.Denial.{Denial}
use Rattle.event.specs.declared.denial.Denial.TheVariants.{Unread, Sheet, Wide}
use Rattle.event.specs.Labels.{is_read, is_write, agree, location}
use Rattle.execution.specs.Content.{Content, label_of, source_of, is_open, initial}
use Rattle.event.specs.Denials.{unless, or_else}
use Rattle.verdict.specs.Numbers.{count, lowest}
use Rattle.verdict.specs.States.{State}

-- a read without a source
abbrev pub unlinked : Content → ℕ → Bool
unlinked g r = is_read (label_of g r) && not (is_some (source_of g r))

-- Unread at the lowest unlinked read, if any
abbrev pub unread : Content → Option Denial
unread g = elim (lowest (length g.events) (unlinked g)) [ Some r ↦ Some (Unread r) | None ↦ None ]

-- w writes to the location l
abbrev pub writes_to : Content → ℕ → ℕ → Bool
writes_to g l w = is_write (label_of g w) && agree (location (label_of g w)) (Some l)

-- the location has an open write, and over 16 writes besides its initial one
abbrev pub wide_at : Content → ℕ → Bool
wide_at g l =
    nat_lt 0 (count (length g.events) (λ w. is_open g w && writes_to g l w))
    && nat_lt 16 (count (length g.events) (λ w. not (initial g w) && writes_to g l w))

-- over 8 open writes, or a location that is wide
abbrev pub too_wide : Content → Bool
too_wide g = nat_lt 8 (count (length g.events) (is_open g)) || nat_lt 0 (count g.locations (wide_at g))

-- why a judge on a sheet of n numbers is denied: on a closed graph by an unlinked read, by its sheet, by its width
abbrev pub judge_denial : State → ℕ → Option Denial
judge_denial s n =
    or_else (cond s.closed (unread s.content) None) (
    unless (nat_le 1280 n) Sheet (
    unless (not (too_wide s.content)) Wide
    None))
