use Rattle.std.proofs.Common.{T, arith, rules, tests}
use Rattle.std.proofs.lemmas.Iterator.{first_from_Range}
use Rattle.execution.specs.Content.{is_open}
use Rattle.graph.specs.View.{view}
use Rattle.graph.proofs.Next.{next_from}
use Rattle.graph.proofs.tables.Graph.next_open.Goals as goal

pub returns : goal.returns
returns c = record {
  lowest_open_write_from_there = next_from (view c.args.self.now) c.args.from c.len.result c.find.result (omega arith)
      (first_from_Range _ _ _ c.find.result (λ a. T (is_open (view c.args.self.now) a)) (λ a. T (is_open (view c.args.self.now) a) → ⊥) c.find.ensures.ran (λ x q k. search (rules, tests)) (λ x q k. search (rules, tests)));
}
