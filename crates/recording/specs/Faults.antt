-- A fault: the line, the column and the denial.
use Rattle.std.specs.Prelude.{ℕ}
use Rattle.event.specs.declared.denial.Denial.{Denial}
use Rattle.event.specs.Denials.{denial_position}
use Rattle.recording.specs.declared.fault.Fault.{Fault}
use Rattle.recording.specs.Layout.{column}

-- a denial on line n, at the first column of the field at the denial's position
abbrev pub fault : ℕ → Denial → Fault
fault n d = record { line = n; column = column (denial_position d); denial = d }
