use Rattle.std.proofs.Common.{◌≡◌, ℕ, true, List, is_some, sym, ap, ◌∙◌, rules}
use Rattle.event.specs.Labels.{is_write}
use Rattle.execution.specs.Lists.{holds}
use Rattle.execution.specs.Content.{label_of}
use Rattle.graph.specs.View.{view}
use Rattle.graph.proofs.Behind.{place_tells}
use Rattle.graph.proofs.tables.Graph.is_open.Goals as goal

pub returns-then-is_some_and : goal.returns-then-is_some_and
returns-then-is_some_and c =
    let placed : holds (view c.args.self.now).placed c.args.event ≡ is_some c.place_of.result =
    ap (λ (xs : List ℕ). holds xs c.args.event) (sym c.placed.ensures.placed_writes_in_order) ∙ place_tells c.placed.result.now c.args.event c.place_of.result c.place_of.ensures.first_place_or_none in
    let writes : is_write (label_of (view c.args.self.now) c.args.event) ≡ true = search rules in
    search rules
