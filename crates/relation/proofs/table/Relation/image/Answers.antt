use Rattle.std.proofs.Common.{◌≡◌, Bool, ◌||◌, T, ◌⊎◌, sym, subst, inl, inr, arith}
use Rattle.std.proofs.lemmas.Bool.{cases_eq}
use Rattle.std.proofs.lemmas.Bool.Decides.{nat_tests}
use Rattle.event_set.specs.Sets.{has}
use Rattle.relation.specs.Table.{holds}
use Rattle.event_set.specs.declared.event_set.EventSet.{EventSet}
use Rattle.cycles.proofs.Tests.{passed, is_true, failed}
use Rattle.relation.proofs.table.Relation.image.Goals as goal

pub loop-m-init : goal.loop-m-init
loop-m-init c = (λ m h. h, λ y h. absurd (failed _ (c.empty-all.ensures.has_no_event y) h), λ m y h k. inl h)

either : (a p q : Bool) → a ≡ (p || q) → T a → T p ⊎ T q
either a p q e h = grind arith

pub loop-m-preserved : goal.loop-m-preserved
loop-m-preserved c =
    let n = c.in-Some.m in
    let r = holds c.args.self.now in
    let gone = c.in-Some.ensures.steps.2 in
    let found = c.loop-m.invariant.0 n c.in-Some.ensures.steps.0 in
    let joined = c.union_with.ensures.has_the_events_of_either in
    let row = c.row.ensures.has_just_the_seconds_of_a in (
      λ m h. let at = gone m in c.loop-m.invariant.0 m (grind arith),
      λ y h. elim (either _ _ _ (joined y) h) [
        | inl k ↦ c.loop-m.invariant.1 y k
        | inr k ↦ (n, found, subst T (row y) k)
      ],
      λ m y h k. elim (cases_eq m n) [
        | inl e ↦
            let pair : T (r n y) = subst (λ x. T (r x y)) e k in
            let at = joined y in
            let here = row y in
            inr (grind arith)
        | inr o ↦ elim (c.loop-m.invariant.2 m y h k) [
          | inl j ↦ let at = gone m in inl (grind (arith, nat_tests))
          | inr j ↦ let at = joined y in inr (grind arith)
        ]
      ],
    )

pub returns : goal.returns
returns c = λ y.
    let same = c.into_iter-m-iterator.ensures.into_iter_gives in (
      λ h.
          let w = c.loop-m.invariant.1 y (passed _ h) in
          (w.0, subst (λ (s : EventSet). T (has s w.0)) same w.1, w.2),
      λ w. elim (c.loop-m.invariant.2 w.0 y (subst (λ (s : EventSet). T (has s w.0)) (sym same) w.1) w.2) [
        | inl k ↦ absurd (failed _ (c.in-None.ensures.steps.0 w.0) k)
        | inr k ↦ is_true _ k
      ],
    )
