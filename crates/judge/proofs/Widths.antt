-- A graph is too wide where an open write goes to a crowded location.
use Rattle.std.proofs.Common.{◌≡◌, ℕ, ◌<◌, Bool, true, false, ◌&&◌, T, ltb, length, get_or, MatchBool, Some, None, Option, sym, refl, ap, ◌∙◌, zero-add, subst, inl, inr, arith}
use Rattle.std.specs.List.{range_with_len, AllWithin, HoldsAt}
use Rattle.std.proofs.lemmas.List.FromFn.{length-range_with_len, get_or-range_with_len}
use lib.Dec.{eqb_refl}
use Rattle.std.proofs.lemmas.Bool.{cases_lt, lt-ltb, ltb-true, eqb-true}
use Rattle.event.specs.Labels.{is_write, agree, location}
use Rattle.execution.specs.Lists.{holds}
use Rattle.execution.specs.Content.{Content, label_of, is_open}
use Rattle.execution.specs.Sound.{Sound}
use Rattle.execution.proofs.Tests.{both, left, right, yes_no, is_true}
use Rattle.execution.proofs.Among.{write_among}
use Rattle.verdict.specs.Numbers.{count}
use Rattle.verdict.specs.Denials.{writes_to, wide_at}
use Rattle.judge.specs.Widths.{recorded_writes, crowded}
use Rattle.judge.proofs.Counts.{count_none, count_some, count_witness}

module _ (g : Content) where
  -- an open write goes to one of the locations
  open_location : Sound g → (w l : ℕ) → T (is_open g w) → location (label_of g w) ≡ Some l → l < g.locations
  open_location s w l o e = elim (cases_lt w g.locations) [
    | inl k ↦ absurd (yes_no (holds g.placed w) (right (is_write (label_of g w)) _ o) (s.initial_placed w k))
    | inr k ↦ (s.recorded w k (write_among g w (left (is_write (label_of g w)) _ o))).its_location l e
  ]

  goes_there : (w l : ℕ) → T (is_open g w) → location (label_of g w) ≡ Some l → T (is_open g w && writes_to g l w)
  goes_there w l o e =
      both (is_open g w) _ o (both (is_write (label_of g w)) _ (left (is_write (label_of g w)) _ o)
      (subst (λ (x : Option ℕ). T (agree x (Some l))) (sym e) (eqb_refl l)))

  wide_here : Sound g → (w l : ℕ) → T (is_open g w) → location (label_of g w) ≡ Some l → T (ltb 16 (recorded_writes g l)) → T (wide_at g l)
  wide_here s w l o e many =
      let some = count_some (length g.events) (λ x. is_open g x && writes_to g l x) w (write_among g w (left (is_write (label_of g w)) _ o)) (goes_there w l o e) in
      both (ltb 0 (count (length g.events) (λ x. is_open g x && writes_to g l x))) _ (subst T (sym (lt-ltb 0 _ some)) tt) many

  pub wide_by : Sound g → (w : ℕ) → T (is_open g w) → T (crowded g (location (label_of g w))) → true ≡ ltb 0 (count g.locations (wide_at g))
  wide_by s w o = by (location (label_of g w)) refl
    where
      by : (x : Option ℕ) → location (label_of g w) ≡ x → T (crowded g x) → true ≡ ltb 0 (count g.locations (wide_at g))
      by None e h = absurd h
      by (Some l) e h = sym (lt-ltb 0 _ (count_some g.locations (wide_at g) l (open_location s w l o e) (wide_here s w l o e h)))

agreed : (x : Option ℕ) (l : ℕ) → T (agree x (Some l)) → x ≡ Some l
agreed None l h = absurd h
agreed (Some k) l h = ap (λ (n : ℕ). Some n) (eqb-true k l (is_true _ h))

module _ (g : Content) (none : (w : ℕ) → w < length g.events → T (is_open g w) → T (crowded g (location (label_of g w))) → ⊥) where
  never_wide : (l : ℕ) → T (wide_at g l) → ⊥
  never_wide l h =
      let some = ltb-true 0 _ (is_true _ (left (ltb 0 (count (length g.events) (λ x. is_open g x && writes_to g l x))) _ h)) in
      let w = count_witness (length g.events) (λ x. is_open g x && writes_to g l x) some in
      let there = right (is_open g w.0) (writes_to g l w.0) w.2 in
      let site = agreed (location (label_of g w.0)) l (right (is_write (label_of g w.0)) _ there) in
      none w.0 w.1 (left (is_open g w.0) _ w.2)
      (subst (λ (x : Option ℕ). T (crowded g x)) (sym site) (right (ltb 0 (count (length g.events) (λ x. is_open g x && writes_to g l x))) _ h))

  pub not_wide_by : false ≡ ltb 0 (count g.locations (wide_at g))
  not_wide_by = sym (ap (λ (n : ℕ). ltb 0 n) (count_none g.locations (wide_at g) (λ l k h. never_wide l h)))

pub wide_tells : (g : Content) → Sound g → (n : ℕ) → n ≡ length g.events → (r : Bool)
    → MatchBool r ((k : ℕ) × (k < length (range_with_len 0 n)) × HoldsAt (λ w. T (is_open g w && crowded g (location (label_of g w)))) (range_with_len 0 n) k)
    (AllWithin (λ w. T (is_open g w && crowded g (location (label_of g w))) → ⊥) (range_with_len 0 n) 0 (length (range_with_len 0 n)))
    → r ≡ ltb 0 (count g.locations (wide_at g))
wide_tells g s n e true (k, within, at) = let w = get_or (range_with_len 0 n) k 0 in wide_by g s w (left (is_open g w) _ (at 0)) (right (is_open g w) _ (at 0))
wide_tells g s n e false none = not_wide_by g (λ w l o c.
    let within : w < length (range_with_len 0 n) = omega (arith, length-range_with_len 0 n) in
    subst (λ (x : ℕ). T (is_open g x && crowded g (location (label_of g x))) → ⊥) (get_or-range_with_len 0 n w 0 (omega arith) ∙ zero-add w) (none w 0 (omega arith) within) (both (is_open g w) _ o c))
