-- A placement that fits: when it is not denied, and who is due with it.
use Rattle.std.proofs.Common.{◌≡◌, ℕ, ◌≤◌, Bool, true, false, not, T, leb, length, None, Option, refl, inl, inr, arith, le→leb, lt→ltb}
use Rattle.event.specs.declared.denial.Denial.{Denial}
use Rattle.event.specs.Labels.{is_write}
use Rattle.execution.specs.Lists.{holds, insert_after}
use Rattle.execution.specs.Content.{Content, label_of, same_location}
use Rattle.execution.specs.Sound.{Sound}
use Rattle.event.specs.Denials.{unless}
use Rattle.execution.specs.Entries.{stands, denial, entered, place}
use Rattle.execution.proofs.Tests.{either, no}
use Rattle.execution.proofs.Lists.{holds_insert, insert_holds}
use Rattle.execution.proofs.Among.{write_among, placed_among}
use Rattle.verdict.specs.Fillings.{due}
use Rattle.verdict.proofs.Lists.{or_left, or_right}

passes : (b : Bool) (d : Denial) (rest : Option Denial) → T b → rest ≡ None → unless b d rest ≡ None
passes true d rest t e = e
passes false d rest t e = elim t [ ]

-- an unplaced write after a placed one of its location
pub fits : (g : Content) → Sound g → (w v : ℕ) → T (is_write (label_of g w)) → T (same_location g v w) → (T (holds g.placed w) → ⊥) → T (holds g.placed v) → denial g (place w v) ≡ None
fits g s w v writes there new standing =
    passes (stands g w) _ _ (lt→ltb w (length g.events) (write_among g w writes))
    (passes (stands g v) _ _ (lt→ltb v (length g.events) (placed_among g s v standing))
    (passes (is_write (label_of g w)) _ _ writes
    (passes (is_write (label_of g v)) _ _ (s.placed_writes v standing)
    (passes (same_location g v w) _ _ there
    (passes (not (holds g.placed w)) _ _ (no (holds g.placed w) new)
    (passes (holds g.placed v) _ _ standing refl))))))

-- with a write from n on placed, the same are due from n on
module _ (g : Content) (n w v : ℕ) (from : n ≤ w) where
  pub due_with : (x : ℕ) → T (due n g x) → T (due n (entered g (place w v)) x)
  due_with x d = elim (either (holds g.placed x) (leb n x) d) [
    | inl k ↦ or_left (holds (insert_after v w g.placed) x) _ (holds_insert v w g.placed x k)
    | inr l ↦ or_right (holds (insert_after v w g.placed) x) _ l
  ]

  pub due_without : (x : ℕ) → T (due n (entered g (place w v)) x) → T (due n g x)
  due_without x d = elim (either (holds (insert_after v w g.placed) x) (leb n x) d) [
    | inl k ↦ elim (insert_holds v w g.placed x k) [
      | inl j ↦ or_left (holds g.placed x) _ j
      | inr e ↦ or_right (holds g.placed x) _ (le→leb n x (omega arith))
    ]
    | inr l ↦ or_right (holds g.placed x) _ l
  ]
