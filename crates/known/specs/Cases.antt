-- The table of known verdicts.
-- An allowed graph has a list of its events for each order of the model, and then each location's modification order.
-- A forbidden one has the lowest order with a cycle and the first cycle there, unless it is forbidden at every placement.
use Rattle.std.specs.Prelude.{List, [], ◌∷◌, ◌++◌, map, replicate}
use Rattle.std.specs.List.{AllByRecursion}
use Rattle.model.specs.Meaning.{Meaning}
use Rattle.model.specs.Layers.{strong}
use Rattle.boards.specs.Coh.{coh}
use Rattle.boards.specs.C11.{c11}
use Rattle.boards.specs.Ra.{ra}
use Rattle.boards.specs.Tso.{tso}
use Rattle.boards.specs.Sc.{sc}
use Rattle.verdict.specs.Answers.{Answer, allowed, cyclic, no_placement}
use Rattle.known.specs.Making.{Making, Case, Known}
use Rattle.known.specs.Graphs.{relaxed, acquire, release, store_buffering, message_passing, load_buffering, old_after_new, two_updates, two_writes, seen_again, nothing}

abbrev case : Making → Meaning → Answer → Case
case graph model answer = record { graph = graph; model = model; answer = answer }

-- the five models
abbrev pub models : List Meaning
models = coh ∷ c11 ∷ ra ∷ tso ∷ sc ∷ []

abbrev pub cases : List Case
cases =
    -- 1. store buffering: TSO may delay both writes past the reads
    case store_buffering sc (cyclic 0 (2 ∷ 3 ∷ 4 ∷ 5 ∷ []))
    ∷ case store_buffering tso (allowed ((0 ∷ 1 ∷ 3 ∷ 4 ∷ 5 ∷ 2 ∷ []) ∷ (0 ∷ 1 ∷ 3 ∷ 4 ∷ 5 ∷ 2 ∷ []) ∷ []) ((0 ∷ 2 ∷ []) ∷ (1 ∷ 4 ∷ []) ∷ []))
    -- 2. message passing, relaxed
    ∷ case (message_passing relaxed relaxed) coh (allowed ((0 ∷ 1 ∷ 3 ∷ 4 ∷ 5 ∷ 2 ∷ []) ∷ []) ((0 ∷ 2 ∷ []) ∷ (1 ∷ 3 ∷ []) ∷ []))
    ∷ case (message_passing relaxed relaxed) ra (cyclic 0 (2 ∷ 5 ∷ []))
    ∷ case (message_passing relaxed relaxed) tso (cyclic 1 (2 ∷ 3 ∷ 4 ∷ 5 ∷ []))
    -- 3. message passing under C11, relaxed and then by release and acquire
    ∷ case (message_passing relaxed relaxed) c11 (allowed ((0 ∷ 1 ∷ 3 ∷ 4 ∷ 5 ∷ 2 ∷ []) ∷ []) ((0 ∷ 2 ∷ []) ∷ (1 ∷ 3 ∷ []) ∷ []))
    ∷ case (message_passing release acquire) c11 (cyclic 0 (2 ∷ 5 ∷ []))
    -- 4. load buffering: under RA an event happens before itself; the strong layer has threads 1 and 2
    ∷ case load_buffering coh (allowed ((0 ∷ 1 ∷ 3 ∷ 4 ∷ 5 ∷ 2 ∷ []) ∷ []) ((0 ∷ 5 ∷ []) ∷ (1 ∷ 3 ∷ []) ∷ []))
    ∷ case load_buffering ra (cyclic 0 (2 ∷ []))
    ∷ case load_buffering (strong 3 coh) (cyclic 0 (2 ∷ 3 ∷ 4 ∷ 5 ∷ []))
    -- 5. the old value after the new
    ∷ case old_after_new coh (cyclic 0 (1 ∷ 2 ∷ 3 ∷ []))
    ∷ case old_after_new ra (cyclic 0 (1 ∷ 3 ∷ []))
    -- 6. two updates of one value, under every model
    ∷ map (λ m. case two_updates m no_placement) models
    -- 7. two writes in the order in which they are seen, and then with the first seen again
    ++ case (two_writes []) coh (allowed ((0 ∷ 2 ∷ 3 ∷ 1 ∷ 4 ∷ []) ∷ []) ((0 ∷ 2 ∷ 1 ∷ []) ∷ []))
    ∷ case (two_writes seen_again) coh no_placement
    -- 8. nothing but an initial write, under every model
    ∷ map (λ m. case nothing m (allowed (replicate m.orders (0 ∷ [])) ((0 ∷ []) ∷ []))) models

-- every one of them is right
abbrev pub KnownVerdicts : Type 0
KnownVerdicts = AllByRecursion Known cases
