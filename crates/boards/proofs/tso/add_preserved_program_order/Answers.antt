use Rattle.std.proofs.Common.{not, ◌&&◌, ◌∙◌, ap₂, rules}
use Rattle.event.specs.Labels.{is_read, is_write}
use Rattle.execution.specs.Content.{label_of, po}
use Rattle.graph.specs.View.{view}
use Rattle.execution.proofs.Tests.{left}
use Rattle.execution.proofs.Among.{read_among, write_among}
use Rattle.graph.proofs.Soundness.{sound_of}
use Rattle.event_set.specs.Sets.{has, HasJust}
use Rattle.relation.specs.Table.{holds}
use Rattle.model.specs.Growing.{po_grows}
use Rattle.model.proofs.Rows.{into_empty}
use Rattle.boards.specs.Tso.{plain_write, plain_read, ppo}
use Rattle.boards.proofs.tso.add_preserved_program_order.Goals as goal

pub returns : goal.returns
returns c =
    let g = view c.args.graph.now in
    let order = into_empty (po g) _ _ c.empty-po.ensures.holds_no_pair c.add_program_order.ensures.adds_exactly_program_order in
    let writes = c.events_where-writes.ensures.has_exactly_those_that_pass (λ a. plain_write (label_of g a)) (record { within = λ a h. write_among g a (left (is_write (label_of g a)) _ h); told = λ a p l q. search rules }) in
    let reads = c.events_where-reads.ensures.has_exactly_those_that_pass (λ a. plain_read (label_of g a)) (record { within = λ a h. read_among g a (left (is_read (label_of g a)) _ h); told = λ a p l q. search rules }) in
    c.add_rows.ensures.adds_exactly_the_rows (ppo g) (record {
      within = λ a b h. (po_grows.inside g (sound_of c.args.graph.now) a b (left (po g a b) _ h)).0;
      told = λ a row l q b.
          let its : HasJust row (λ y. holds c.add_program_order.new.table a y && not (has c.events_where-writes.result a && has c.events_where-reads.result y)) = search rules in
          its b ∙ ap₂ (λ x y. x && y) (order a b) (ap₂ (λ x y. not (x && y)) (writes a) (reads b));
    })
