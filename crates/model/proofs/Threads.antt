-- Sets of threads, and program order inside one.
use Rattle.std.proofs.Common.{◌≡◌, ℕ, ◌-◌, ◌/◌, ◌%◌, ◌^◌, ◌<◌, ◌≤◌, Bool, true, false, not, ◌&&◌, ◌||◌, eqb, ltb, sym, ap, ◌∙◌, lt_of_lt_of_le, arith, pow_mono}
use native.Mathlib.Nat.{div-eq_of_lt}
use lib.Bits.{bit_and, and_mask}
use Rattle.std.proofs.lemmas.Bool.{lt-ltb}
use Rattle.std.proofs.lemmas.Bool.Decides.{nat_tests}
use Rattle.event.specs.declared.event.Event.{Event}
use Rattle.execution.specs.Content.{Content, thread_of}
use Rattle.execution.specs.Sound.{Sound}
use Rattle.event_set.specs.Sets.{bit}
use Rattle.model.specs.Layers.{has_thread}

digit_past : (w k : ℕ) → w < 2 ^ 16 → 16 ≤ k → bit w k ≡ false
unfolding bit
digit_past w k few past = ap (λ q. eqb (q % 2) 1) (div-eq_of_lt (lt_of_lt_of_le few (pow_mono past)))

pub its_digit : (w t : ℕ) → 1 ≤ t → eqb (bit_and (w / 2 ^ (t - 1)) 1) 1 ≡ has_thread w t
unfolding bit
its_digit w t l = ap (λ n. eqb n 1) (and_mask (w / 2 ^ (t - 1)) 1) ∙ sym (ap (λ b. b && eqb (w / 2 ^ (t - 1) % 2) 1) (lt-ltb 0 t l))

-- a set of 16 digits has none but the threads 1 to 16
pub no_thread : (w t : ℕ) → w < 2 ^ 16 → (1 ≤ t → 17 ≤ t) → false ≡ has_thread w t
no_thread w t few out = let past = digit_past w (t - 1) few in grind (arith, nat_tests)

-- an initial write is in no thread of a set
pub initial_thread : (g : Content) → Sound g → (a : ℕ) → a < g.locations → thread_of g a ≡ 0
initial_thread g s a l = ap (λ (e : Event). e.thread) (s.initial_writes a l)

-- the row of an event in a thread of the set, and of one in none
pub own_row : (n m a y ta ty : ℕ) (its : Bool) → (a < m → ta ≡ 0) → (ltb 0 ta && its) ≡ true
    → (ltb y n && (eqb ta ty && ltb a y)) ≡ ((ltb y n && ((eqb ta ty && ltb a y) || (ltb a m && not (ltb y m)))) && (eqb ta ty && (ltb 0 ta && its)))
own_row n m a y ta ty its first e = grind (arith, nat_tests)

pub no_own_row : (p s h : Bool) → h ≡ false → (p && (s && h)) ≡ false
no_own_row p s h e = grind arith
