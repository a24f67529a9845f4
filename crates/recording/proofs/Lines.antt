-- The first line of some bytes, and what comes after it.
use Rattle.std.proofs.Common.{◌≡◌, ℕ, zero, suc, ◌+◌, ◌-◌, ◌<◌, ◌≤◌, true, false, cond, eqb, List, [], ◌∷◌, ◌++◌, length, get_or, take, drop, min, sym, refl, ap, ◌∙◌, arith}
use lib.Seq.{take-nil}
use Rattle.std.specs.List.{IsFirstMatchOrLen}
use Rattle.std.proofs.Math.Seq.{take-append_seam}
use Rattle.std.proofs.lemmas.List.{take_rest, drop-drop, drop_all}
use Rattle.recording.specs.Lines.{lines, onto}

-- up to the first newline, which is included
unfoldable pub first : List ℕ → List ℕ
first [] = []
first (b ∷ bs) = b ∷ cond (eqb b 10) [] (first bs)

unfoldable pub after : List ℕ → List ℕ
after [] = []
after (b ∷ bs) = cond (eqb b 10) bs (after bs)

pub lines_by_first : (bs : List ℕ) → 0 < length bs → lines bs ≡ first bs ∷ lines (after bs)
unfolding lines first after
lines_by_first [] h = absurd (omega arith)
lines_by_first (b ∷ []) h = elim (eqb b 10) as (λ t. cond t ((b ∷ []) ∷ []) ((b ∷ []) ∷ []) ≡ (b ∷ cond t [] []) ∷ lines (cond t [] [])) [ true ↦ refl | false ↦ refl ]
lines_by_first (b ∷ c ∷ bs) h =
    let ih = lines_by_first (c ∷ bs) (omega arith)
    in elim (eqb b 10) as (λ t. cond t ((b ∷ []) ∷ lines (c ∷ bs)) (onto b (lines (c ∷ bs))) ≡ (b ∷ cond t [] (first (c ∷ bs))) ∷ lines (cond t (c ∷ bs) (after (c ∷ bs)))) [ true ↦ refl | false ↦ ap (onto b) ih ]

pub first_is_take : (bs : List ℕ) → take (length (first bs)) bs ≡ first bs
unfolding first
first_is_take [] = refl
first_is_take (b ∷ bs) =
    let ih = first_is_take bs
    in elim (eqb b 10) as (λ t. b ∷ take (length (cond t [] (first bs))) bs ≡ b ∷ cond t [] (first bs)) [ true ↦ refl | false ↦ ap (λ xs. b ∷ xs) ih ]

pub after_is_drop : (bs : List ℕ) → drop (length (first bs)) bs ≡ after bs
unfolding first after
after_is_drop [] = refl
after_is_drop (b ∷ bs) =
    let ih = after_is_drop bs
    in elim (eqb b 10) as (λ t. drop (length (cond t [] (first bs))) bs ≡ cond t bs (after bs)) [ true ↦ refl | false ↦ ih ]

pub first_some : (bs : List ℕ) → 0 < length bs → 0 < length (first bs)
unfolding first
first_some [] h = h
first_some (b ∷ bs) h = omega arith

pub first_within : (bs : List ℕ) → length (first bs) ≤ length bs
unfolding first
first_within [] = omega arith
first_within (b ∷ bs) =
    let ih = first_within bs
    in elim (eqb b 10) as (λ t. suc (length (cond t [] (first bs))) ≤ suc (length bs)) [ true ↦ omega arith | false ↦ omega arith ]

-- the first newline's place, or else the length, says where the first line ends
pub first_by_place : (bs : List ℕ) (i : ℕ) → 0 < length bs → IsFirstMatchOrLen (λ b. eqb b 10) bs i → length (first bs) ≡ min (i + 1) (length bs)
unfolding first
first_by_place [] i some at = absurd (omega arith)
first_by_place (b ∷ bs) zero some (before, there) =
    let e : eqb b 10 ≡ true = there some 0
    in rw e (omega arith)
first_by_place (b ∷ []) (suc i) some (before, there) =
    let e : eqb b 10 ≡ false = before 0 0 (omega arith) (omega arith)
    in rw e (omega arith)
first_by_place (b ∷ c ∷ bs) (suc i) some (before, there) =
    let e : eqb b 10 ≡ false = before 0 0 (omega arith) (omega arith)
    in let ih = first_by_place (c ∷ bs) i (omega arith) (λ k d low high. before (suc k) d (omega arith) (omega arith), λ h d. there (omega arith) d)
    in rw e (omega (arith, ih))

-- no newline stands before a line's last byte
pub no_newline_inside : (bs : List ℕ) (k : ℕ) → suc k < length (first bs) → get_or (first bs) k 0 ≡ 10 → ⊥
unfolding first
no_newline_inside [] k h e = omega arith
no_newline_inside (b ∷ bs) zero h e = omega (arith, rw e at h)
no_newline_inside (b ∷ bs) (suc k) h e =
    elim (eqb b 10) as (λ t. suc (suc k) < suc (length (cond t [] (first bs))) → get_or (cond t [] (first bs)) k 0 ≡ 10 → ⊥) [ true ↦ λ h e. omega arith | false ↦ λ h e. no_newline_inside bs k (omega arith) e ] h e

-- the first bytes of what is given have the first bytes of its first line as theirs
pub first_of_take : (m : ℕ) (bs : List ℕ) → first (take m bs) ≡ take m (first bs)
unfolding first
first_of_take zero bs = refl
first_of_take (suc m) [] = refl
first_of_take (suc m) (b ∷ bs) =
    let ih = first_of_take m bs
    in elim (eqb b 10) as (λ t. b ∷ cond t [] (first (take m bs)) ≡ b ∷ take m (cond t [] (first bs))) [ true ↦ ap (λ xs. b ∷ xs) (sym (take-nil m)) | false ↦ ap (λ xs. b ∷ xs) ih ]

pub after_of_take : (m : ℕ) (bs : List ℕ) → length (first bs) ≤ m → after (take m bs) ≡ take (m - length (first bs)) (after bs)
unfolding first after
after_of_take m [] h = ap after (take-nil m) ∙ sym (take-nil (m - 0))
after_of_take zero (b ∷ bs) h = absurd (omega arith)
after_of_take (suc m) (b ∷ bs) h =
    elim (eqb b 10) as (λ t. length (cond t [] (first bs)) ≤ m → cond t (take m bs) (after (take m bs)) ≡ take (suc m - suc (length (cond t [] (first bs)))) (cond t bs (after bs))) [
      | true ↦ λ low. let e : suc m - 1 ≡ m = omega arith in rw e
      | false ↦ λ low. let e : suc m - suc (length (first bs)) ≡ m - length (first bs) = omega arith in rw e (after_of_take m bs low)
    ] (omega arith)

-- what a reader has left: no line, or its next one, cut off with all that follows it
module _ (bytes : List ℕ) (p : ℕ) (left : List ℕ) (is : left ≡ take (length bytes - p) (drop p bytes)) where
  whole : left ≡ drop p bytes
  whole = is ∙ take_rest bytes p

  pub no_line : length left ≡ 0 → lines (drop p bytes) ≡ []
  unfolding lines
  no_line none = ap lines (sym whole ∙ drop_all 0 left (omega arith))

  pub next_line : (line later : List ℕ) (i : ℕ) → left ≡ line ++ later → 0 < length left → length line ≡ min (i + 1) (length left) → IsFirstMatchOrLen (λ b. eqb b 10) left i → lines (drop p bytes) ≡ line ∷ lines (drop (p + length line) bytes)
  next_line line later i split some long at =
      let long' : length (first left) ≡ length line = first_by_place left i some at ∙ sym long
      in let one : first left ≡ line = sym (first_is_take left) ∙ rw (long', split) (take-append_seam line later)
      in let rest : after left ≡ drop (p + length line) bytes = sym (after_is_drop left) ∙ rw (long', whole) (drop-drop (length line) p bytes)
      in rw (← whole, ← rest) (lines_by_first left some ∙ ap (λ l. l ∷ lines (after left)) one)
