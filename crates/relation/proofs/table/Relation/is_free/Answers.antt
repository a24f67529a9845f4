use Rattle.std.proofs.Common.{ℕ, Bool, true, false, T, sym, subst}
use Rattle.std.specs.Bool.{MatchBool}
use Rattle.event_set.specs.Sets.{has, HasJust, LeadsOn}
use Rattle.event_set.specs.declared.event_set.EventSet.{EventSet}
use Rattle.relation.specs.Table.{holds}
use Rattle.relation.proofs.table.Relation.is_free.Goals as goal

by_row : (r : ℕ → ℕ → Bool) (row left : EventSet) (a : ℕ) (b : Bool) → HasJust row (λ y. r a y)
    → MatchBool b ((x : ℕ) → T (has row x) → T (has left x) → ⊥) ((x : ℕ) × T (has row x) × T (has left x))
    → MatchBool b (LeadsOn r left a → ⊥) (LeadsOn r left a)
by_row r row left a true same h = λ w. h w.0 (subst T (sym (same w.0)) w.1) w.2
by_row r row left a false same h = (h.0, subst T (same h.0) h.1, h.2)

pub returns : goal.returns
returns c = by_row (holds c.args.self.now) _ c.args.left.now c.args.event _ c.row.ensures.has_just_the_seconds_of_a c.is_disjoint.ensures.true_exactly_when_none_is_in_both
