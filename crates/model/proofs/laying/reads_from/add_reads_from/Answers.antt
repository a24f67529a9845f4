use Rattle.std.proofs.Common.{◌≡◌, true, sym, ◌∙◌, rules}
use Rattle.execution.specs.Content.{rf}
use Rattle.execution.proofs.Tests.{is_true}
use Rattle.graph.specs.View.{view}
use Rattle.model.proofs.laying.reads_from.add_reads_from.Goals as goal

pub returns : goal.returns
returns c = record {
  adds_exactly_reads_from = c.add_reads_from_where.ensures.adds_exactly_those_that_pass (rf (view c.args.graph.now)) (record {
    within = λ a b h. h;
    told = λ a b p h q. let e : p ≡ true = search rules in e ∙ sym (is_true (rf (view c.args.graph.now) a b) h);
  });
}
