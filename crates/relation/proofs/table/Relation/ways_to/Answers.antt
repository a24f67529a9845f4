use Rattle.std.proofs.Common.{◌∙◌, arith}
use Rattle.std.proofs.lemmas.Bool.Decides.{Decides-at}
use Rattle.relation.specs.Table.{holds}
use Rattle.cycles.proofs.Layers.{way_none, layer_more, layers_more}
use Rattle.relation.proofs.table.Relation.ways_to.Goals as goal

pub loop-k-init : goal.loop-k-init
loop-k-init c =
    let turned = c.transposed-back.ensures.holds_each_pair_turned in
    let z = c.args.target in (
      λ x. Decides-at _ _ (c.row-layer.ensures.has_just_the_seconds_of_a x ∙ turned z x) (way_none (holds c.args.self.now) x z),
      λ j x. (λ h. let none = c.empty-ways.ensures.holds_no_pair j x in absurd (grind arith), λ w. let l = w.0 in absurd (omega arith)),
    )

pub loop-k-preserved : goal.loop-k-preserved
loop-k-preserved c =
    let r = holds c.args.self.now in
    let k = c.loop-k.k in
    let z = c.args.target in (
      layer_more r _ c.transposed-back.ensures.holds_each_pair_turned k z _ _ c.loop-k.invariant.0 c.image-layer.ensures,
      layers_more r k z _ _ _ c.loop-k.invariant.0 c.loop-k.invariant.1 c.join_row.ensures.adds_just_those_pairs_of_a,
    )
