use Rattle.std.proofs.Common.{◌≡◌, ℕ, ◌∷◌, [], ◌++◌, List, length, take, sym, ap, ◌∙◌, arith}
use Rattle.std.proofs.Math.ListN.{set}
use Rattle.std.proofs.lemmas.List.{length-take, take_more}
use Rattle.verdict.specs.Answers.{laid}
use Rattle.judge.proofs.Lists.{laid_more}
use Rattle.judge.proofs.showing.write.Goals as goal

pub loop-i-preserved : goal.loop-i-preserved
loop-i-preserved c =
    let i = c.loop-i.i in
    let xs = take i c.args.events.now in
    let before = c.args.sheet.now in
    let here : length xs ≡ i = omega (arith, length-take i c.args.events.now, c.loop-i-test.true) in
    ap (λ (s : List ℕ). set s i c.from.result) c.loop-i.invariant ∙ ap (λ (k : ℕ). set (laid xs before) k c.from.result) (sym here)
    ∙ laid_more xs before c.from.result (omega (arith, here, c.loop-i-test.true, c.requires))
    ∙ ap (λ (zs : List ℕ). laid zs before) (ap (λ (v : ℕ). xs ++ (v ∷ [])) c.from.ensures ∙ sym (take_more c.args.events.now i 0 c.loop-i-test.true))
