use Rattle.execution.specs.Content.{po}
use Rattle.graph.specs.View.{view}
use Rattle.graph.proofs.Soundness.{sound_of}
use Rattle.relation.specs.Table.{holds}
use Rattle.model.specs.Growing.{po_grows, rf_grows}
use Rattle.execution.proofs.Tests.{either}
use Rattle.std.proofs.Common.{inl, inr}
use Rattle.boards.specs.Relations.{◌∪◌}
use Rattle.boards.specs.Stepping.{closed}
use Rattle.boards.proofs.Laid.{two}
use Rattle.boards.proofs.synchronising.happens_before_by.Goals as goal

pub returns : goal.returns
returns g c =
    let v = view c.args.graph.now in
    let s = sound_of c.args.graph.now in
    record {
      one_or_more_steps = λ r t.
          closed v (po v ∪ r) _ (holds c.close.new.self)
          (λ a b h. elim (either (po v a b) (r a b) h) [ inl x ↦ (po_grows.inside v s a b x).1 | inr y ↦ (rf_grows.inside v s a b (t.within a b y)).1 ])
          (λ a b. two _ _ _ (po v a b) (r a b) (c.empty-hb.ensures.holds_no_pair a b) (c.add_program_order.ensures.adds_exactly_program_order a b) (c.add_reads_from_where.ensures.adds_exactly_those_that_pass r t a b))
          c.close.ensures.holds_just_what_one_or_more_steps_join;
    }
