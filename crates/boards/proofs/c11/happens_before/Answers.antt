use Rattle.std.proofs.Common.{◌≡◌, Bool, ◌&&◌, sym, ap, ◌∙◌, rules}
use Rattle.event.specs.Labels.{mode_of}
use Rattle.execution.specs.Content.{label_of, rf}
use Rattle.graph.specs.View.{view}
use Rattle.execution.proofs.Tests.{left, is_true}
use Rattle.boards.specs.C11.{releases, acquires, sw}
use Rattle.boards.proofs.c11.happens_before.Goals as goal

pub returns : goal.returns
returns c =
    let g = view c.args.graph.now in
    c.happens_before_by.ensures.one_or_more_steps (sw g) (record {
      within = λ a b. left (rf g a b) _;
      told = λ a b p h q.
          let modes : Bool = releases (mode_of (label_of g a)) && acquires (mode_of (label_of g b)) in
          let e : p ≡ modes = search rules in
          e ∙ sym (ap (λ x. x && modes) (is_true (rf g a b) h));
    })
