-- Each denial's number and the position that it points at; and which denial an answer has.
use Rattle.std.specs.Prelude.{ℕ, Bool, cond, Some, None, Ok, Err, Option, Result}
use Rattle.event.specs.declared.denial.Denial.{Denial}
use Rattle.event.specs.declared.denial.Denial.TheVariants.{Range, Mode, Full, Kind, Site, Value, Twice, Loose, Unread, Sheet, Wide, Page, Line, Frame, Blank, Number}

abbrev pub denial_number : Denial → ℕ
denial_number (Range p) = 1
denial_number Mode = 2
denial_number Full = 3
denial_number (Kind p) = 4
denial_number Site = 5
denial_number Value = 6
denial_number Twice = 7
denial_number Loose = 8
denial_number (Unread r) = 9
denial_number Sheet = 10
denial_number Wide = 11
denial_number Page = 12
denial_number Line = 13
denial_number Frame = 14
denial_number (Blank p) = 15
denial_number (Number p) = 16

-- the argument or field at fault, for an unlinked read its event, and 0 where none is
abbrev pub denial_position : Denial → ℕ
denial_position (Range p) = p
denial_position Mode = 5
denial_position Full = 0
denial_position (Kind p) = p
denial_position Site = 2
denial_position Value = 2
denial_position Twice = 1
denial_position Loose = 2
denial_position (Unread r) = r
denial_position Sheet = 0
denial_position Wide = 0
denial_position Page = 0
denial_position Line = 0
denial_position Frame = 0
denial_position (Blank p) = p
denial_position (Number p) = p

-- the denial in an answer, if any
abbrev pub refusal : {A : Type 0} → Result A Denial → Option Denial
refusal (Ok x) = None
refusal (Err d) = Some d

-- d unless the test passes, and then the rest
abbrev pub unless : Bool → Denial → Option Denial → Option Denial
unless passes d rest = cond passes rest (Some d)

-- the first denial if there is one, and else the rest
abbrev pub or_else : Option Denial → Option Denial → Option Denial
or_else (Some d) rest = Some d
or_else None rest = rest
