use Rattle.std.proofs.Common.{not, ◌&&◌, eqb, ltb, length}
use Rattle.execution.specs.Content.{thread_of, initial}
use Rattle.graph.specs.View.{view}
use Rattle.model.proofs.Parts.{both_parts}
use Rattle.model.proofs.laying.program_order.add_program_order.Goals as goal

pub returns : goal.returns
returns c = record {
  adds_exactly_program_order = λ a b.
      let g = view c.args.graph.now in
      both_parts (ltb b (length g.events)) (eqb (thread_of g a) (thread_of g b) && ltb a b) (initial g a && not (initial g b)) _ _ _
      (c.add_thread_order.ensures.adds_each_thread_by_number a b) (c.add_initial_order.ensures a b);
}
