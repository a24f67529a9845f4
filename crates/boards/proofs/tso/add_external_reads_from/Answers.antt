use Rattle.std.proofs.Common.{◌≡◌, Bool, not, ◌&&◌, eqb, sym, ap, ◌∙◌, rules}
use Rattle.execution.specs.Content.{thread_of, rf}
use Rattle.graph.specs.View.{view}
use Rattle.execution.proofs.Tests.{left, is_true}
use Rattle.boards.specs.Tso.{rfe}
use Rattle.boards.proofs.tso.add_external_reads_from.Goals as goal

pub returns : goal.returns
returns c =
    let g = view c.args.graph.now in
    c.add_reads_from_where.ensures.adds_exactly_those_that_pass (rfe g) (record {
      within = λ a b. left (rf g a b) _;
      told = λ a b p h q.
          let apart : Bool = not (eqb (thread_of g a) (thread_of g b)) in
          let e : p ≡ apart = search rules in
          e ∙ sym (ap (λ x. x && apart) (is_true (rf g a b) h));
    })
