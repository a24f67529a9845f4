-- The tables of a graph as its content.
use Rattle.std.specs.Prelude.{ℕ, Option}
use Rattle.event.specs.declared.event.Event.{Event}
use Rattle.execution.specs.Content.{Content}
use Rattle.sequence.specs.declared.sequence.Sequence.{Sequence}
use Rattle.sequence.specs.Sequences.{items}

abbrev pub content : ℕ → ℕ → Sequence Event 256 → Sequence (Option ℕ) 256 → Sequence ℕ 256 → Content
content threads locations events sources placed = record { threads = threads; locations = locations; events = items events; sources = items sources; placed = items placed }
