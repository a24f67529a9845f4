use Rattle.std.proofs.Common.{◌≡◌, true, sym, ◌∙◌, rules}
use Rattle.execution.specs.Content.{rf}
use Rattle.graph.specs.View.{view}
use Rattle.execution.proofs.Tests.{is_true}
use Rattle.boards.proofs.ra.happens_before.Goals as goal

pub returns : goal.returns
returns c =
    let g = view c.args.graph.now in
    c.happens_before_by.ensures.one_or_more_steps (rf g) (record {
      within = λ a b h. h;
      told = λ a b p h q. let e : p ≡ true = search rules in e ∙ sym (is_true (rf g a b) h);
    })
