use Rattle.std.proofs.Common.{◌&&◌, ◌||◌, ap, ◌∙◌}
use Rattle.execution.specs.Content.{same_location, po}
use Rattle.graph.specs.View.{view}
use Rattle.relation.specs.Table.{holds}
use Rattle.model.proofs.Rows.{into_empty}
use Rattle.threefold.proofs.Orders.{four_added}
use Rattle.threefold.proofs.add_coherence.Goals as goal

pub returns : goal.returns
returns c = λ a b.
    let g = view c.args.graph.now in
    let order = into_empty (po g) _ _ c.empty-order.ensures.holds_no_pair c.add_program_order.ensures.adds_exactly_program_order in
    four_added (po g a b) (same_location g a b) _ _ _ _ _ _ _ _
    (c.add_at_one_location.ensures.adds_exactly_those_of_one_location a b ∙ ap (λ p. (p && same_location g a b) || holds c.args.table.now a b) (order a b))
    (c.add_reads_from.ensures.adds_exactly_reads_from a b)
    (c.add_modification_order.ensures.adds_exactly_modification_order a b)
    (c.add_reads_before.ensures.adds_exactly_reads_before a b)
