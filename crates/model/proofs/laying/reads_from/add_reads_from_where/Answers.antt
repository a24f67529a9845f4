use Rattle.std.proofs.Common.{◌≡◌, ℕ, ◌+◌, List, length, get_or, Some, None, Option, T, sym, ap, ◌∙◌, subst, arith}
use Rattle.event.specs.Labels.{agree}
use Rattle.execution.specs.Content.{source_of}
use Rattle.graph.specs.View.{view}
use Rattle.execution.proofs.Among.{link_among}
use Rattle.relation.specs.declared.table.Relation.{Relation}
use Rattle.model.proofs.Links.{Links, linked, its_source, one_link, no_link, no_true}
use Rattle.model.proofs.Rows.{no_rest}
use Rattle.model.proofs.laying.reads_from.add_reads_from_where.Goals as goal
use Rattle.model.proofs.laying.reads_from.add_reads_from_where.Goals.{in-Some+then-passes, in-Some+else-passes, in_default}

pub loop-read-preserved : goal.loop-read-preserved
loop-read-preserved g c = λ r t.
    let v = view c.args.graph.now in
    let i = c.loop-read.read in
    let entry = c.args.table.now in
    let source : source_of v i ≡ get_or c.sources-source-items.result.now i None = sym (ap (λ (xs : List (Option ℕ)). get_or xs i None) c.sources-source-items.ensures.all_sources_in_order) in
    elim c.match-source.branch [
      | in-Some+then-passes w ↦
          let s = w.in-Some.source in
          let e = source ∙ w.in-Some.is in
          subst (λ (u : Relation). Links r entry u (i + 1)) (sym w.table-is)
          (one_link r entry _ _ s i (sym (t.told s i _ (linked v s i e) w.passes.ensures) ∙ w.if-passes.true) (λ x h. its_source v s x i e (t.within x i h)) (c.loop-read.invariant r t) w.insert.ensures.adds_just_this_pair)
      | in-Some+else-passes w ↦
          let s = w.in-Some.source in
          let e = source ∙ w.in-Some.is in
          let left_out = sym (t.told s i _ (linked v s i e) w.passes.ensures) ∙ w.if-passes.false in
          subst (λ (u : Relation). Links r entry u (i + 1)) (sym w.table-is)
          (no_link r entry _ i (λ x h. no_true (r s i) left_out (subst (λ z. T (r z i)) (sym (its_source v s x i e (t.within x i h))) h)) (c.loop-read.invariant r t))
      | in_default w ↦
          subst (λ (u : Relation). Links r entry u (i + 1)) (sym w.table-is)
          (no_link r entry _ i (λ x h. subst (λ o. T (agree o (Some x))) (source ∙ w.in_default.is) (t.within x i h)) (c.loop-read.invariant r t))
    ]

pub returns : goal.returns
returns g c =
    let v = view c.args.graph.now in
    let many = ap length c.sources-source-items.ensures.all_sources_in_order in
    record {
      adds_exactly_those_that_pass = λ r t a b.
          no_rest (length v.sources) c.loop-read.read b _ _ (r a b) (omega (arith, many)) (λ h. link_among v a b (t.within a b h)) (c.loop-read.invariant r t a b);
    }
