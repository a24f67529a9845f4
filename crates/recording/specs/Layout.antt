-- What a line is: its letter, its five fields, and which of them it fills.
use Rattle.std.specs.Prelude.{ℕ, ◌+◌, ◌-◌, Bool, true, false, cond, not, ◌&&◌, ◌||◌, List, [], ◌∷◌, length, take, drop, map, is_some, Some, None, Option, ◌==◌, slice_index, slice_index_or}
use Rattle.std.specs.List.{list_any}
use Rattle.std.specs.Option.{unwrap_or}
use Rattle.event.specs.declared.event.Kind.TheVariants.{Read, Write, Update, Fence}
use Rattle.event.specs.declared.denial.Denial.{Denial}
use Rattle.event.specs.declared.denial.Denial.TheVariants.{Blank, Number}
use Rattle.numeral.specs.Numerals.{numeral}
use Rattle.recording.specs.declared.layout.LineKind.{LineKind}
use Rattle.recording.specs.declared.layout.LineKind.TheVariants.{Header, Event, Link, Place, End}
use Rattle.recording.specs.declared.layout.Position.{Position}
use Rattle.recording.specs.declared.layout.Position.TheVariants.{First, Second, Third, Fourth, Fifth}
use Rattle.recording.specs.Rules.{positions, at_first}
use Rattle.event.specs.Denials.{or_else}

-- the letters F H L P R U W Z
abbrev pub lettered : ℕ → Option LineKind
lettered b =
    cond (b == 70) (Some (Event Fence)) (cond (b == 72) (Some Header) (
    cond (b == 76) (Some Link) (cond (b == 80) (Some Place) (
    cond (b == 82) (Some (Event Read)) (cond (b == 85) (Some (Event Update)) (
    cond (b == 87) (Some (Event Write)) (cond (b == 90) (Some End) None)))))))

-- what a line is, if it has 33 bytes and a newline, and a known letter first
unfoldable pub kind : List ℕ → Option LineKind
kind line = cond (length line == 34 && slice_index line 33 == 10) (lettered (slice_index line 0)) None

-- which of the five fields a line fills
abbrev pub layout : LineKind → List Bool
layout Header = true ∷ true ∷ true ∷ true ∷ true ∷ []
layout (Event Read) = true ∷ true ∷ true ∷ false ∷ true ∷ []
layout (Event Write) = true ∷ true ∷ false ∷ true ∷ true ∷ []
layout (Event Update) = true ∷ true ∷ true ∷ true ∷ true ∷ []
layout (Event Fence) = true ∷ false ∷ false ∷ false ∷ true ∷ []
layout Link = true ∷ true ∷ false ∷ false ∷ false ∷ []
layout Place = true ∷ true ∷ false ∷ false ∷ false ∷ []
layout End = false ∷ false ∷ false ∷ false ∷ false ∷ []

-- the number of a position
abbrev pub position_number : Position → ℕ
position_number First = 1
position_number Second = 2
position_number Third = 3
position_number Fourth = 4
position_number Fifth = 5

-- whether the field at a position from 1 to 5 is one of them
abbrev pub fills : LineKind → ℕ → Bool
fills k p = slice_index_or (layout k) (p - 1) false

-- the first column of the field at a position, counted from 1; position 0 has none, and 6 is the newline's
abbrev pub column : ℕ → ℕ
column p = slice_index (0 ∷ 2 ∷ 6 ∷ 10 ∷ 21 ∷ 32 ∷ 34 ∷ []) p

-- what follows the letter, from column 2 on
abbrev pub rest : List ℕ → List ℕ
rest line = drop 1 line

-- the field at a position, which reaches from its column to the next one's
unfoldable pub field : List ℕ → ℕ → List ℕ
field rest p = take (column (p + 1) - column p) (drop (column p - 2) rest)

-- some byte is no space
abbrev pub is_filled : List ℕ → Bool
is_filled field = list_any (λ b. not (b == 32)) field

-- both or neither
abbrev pub agree : Bool → Bool → Bool
agree true b = b
agree false b = not b

-- a field is filled or empty as the layout says
abbrev pub laid_out : LineKind → List ℕ → ℕ → Bool
laid_out k rest p = agree (fills k p) (is_filled (field rest p))

-- a field that is to be filled holds a number
abbrev pub numbered : LineKind → List ℕ → ℕ → Bool
numbered k rest p = not (fills k p) || is_some (numeral (field rest p))

-- the number in a field that the layout fills, else 0
abbrev pub value : LineKind → List ℕ → ℕ → ℕ
value k rest p = cond (fills k p) (unwrap_or (numeral (field rest p)) 0) 0

-- the numbers of the five fields
unfoldable pub numbers : LineKind → List ℕ → List ℕ
numbers k rest = map (value k rest) positions

-- Blank at the first field that is not as laid out
unfoldable pub blank_denial : LineKind → List ℕ → Option Denial
blank_denial k rest = at_first (laid_out k rest) Blank

-- Number at the first field that holds none
unfoldable pub number_denial : LineKind → List ℕ → Option Denial
number_denial k rest = at_first (numbered k rest) Number

-- why a line's fields are denied
abbrev pub field_denial : LineKind → List ℕ → Option Denial
field_denial k rest = or_else (blank_denial k rest) (number_denial k rest)
