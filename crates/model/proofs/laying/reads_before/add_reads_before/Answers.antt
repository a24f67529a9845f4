use Rattle.std.proofs.Common.{ℕ, ◌+◌, not, ◌&&◌, eqb, List, length, get_or, None, Option, sym, ap, ◌∙◌, subst, arith}
use Rattle.execution.specs.Content.{mo, rb}
use Rattle.graph.specs.View.{view}
use Rattle.execution.proofs.Among.{link_among}
use Rattle.relation.specs.declared.table.Relation.{Relation}
use Rattle.model.proofs.Places.{overwriting, overwrites_none}
use Rattle.model.specs.Growing.{rb_source}
use Rattle.model.proofs.Rows.{Rows, one_row, empty_row, all_rows, into_empty}
use Rattle.model.proofs.laying.reads_before.add_reads_before.Goals as goal
use Rattle.model.proofs.laying.reads_before.add_reads_before.Goals.{in-Some, in_default}

pub loop-read-preserved : goal.loop-read-preserved
loop-read-preserved c =
    let g = view c.args.graph.now in
    let entry = c.args.table.now in
    let a = c.loop-read.read in
    let source = sym (ap (λ (xs : List (Option ℕ)). get_or xs a None) c.sources-source-items.ensures.all_sources_in_order) in
    let order = into_empty (mo g) _ _ c.empty-order.ensures.holds_no_pair c.add_modification_order.ensures.adds_exactly_modification_order in
    elim c.match-source.branch [
      | in-Some w ↦
          subst (λ (t : Relation). Rows (rb g) entry t (a + 1)) (sym w.table-is)
          (one_row (rb g) entry _ _ a _
          (λ y.
          w.remove.ensures.takes_just_this_one y
          ∙ ap (λ p. not (eqb y a) && p) (w.row-overwriting.ensures.has_just_the_seconds_of_a y ∙ order w.in-Some.source y)
          ∙ overwriting g w.in-Some.source a y (source ∙ w.in-Some.is))
          c.loop-read.invariant w.join_row.ensures.adds_just_those_pairs_of_a)
      | in_default w ↦
          subst (λ (t : Relation). Rows (rb g) entry t (a + 1)) (sym w.table-is)
          (empty_row (rb g) entry _ a (λ y. overwrites_none g a y (source ∙ w.in_default.is)) c.loop-read.invariant)
    ]

pub returns : goal.returns
returns c =
    let g = view c.args.graph.now in
    let many = ap length c.sources-source-items.ensures.all_sources_in_order in
    record {
      adds_exactly_reads_before = all_rows (rb g) _ _ (length g.sources) c.loop-read.read (omega (arith, many))
          (λ x y h. let w = rb_source g x y h in link_among g w.0 x w.1) c.loop-read.invariant;
    }
