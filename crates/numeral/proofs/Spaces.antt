-- The leading spaces of a field, and what follows them.
use Rattle.std.proofs.Common.{◌≡◌, ℕ, zero, suc, ◌-◌, ◌<◌, true, false, eqb, List, [], ◌∷◌, ◌++◌, length, get_or, take, drop, replicate, sym, refl, ap, ◌∙◌, ⊎_elim, arith}
use Rattle.numeral.specs.Numerals.{unpadded}
use Rattle.std.proofs.lemmas.List.{take_rest}
use Rattle.std.proofs.lemmas.Bool.{and_parts, cases_Bool, eqb-true, ne_eqb}
use Rattle.std.proofs.lemmas.Bool.Decides.{nat_tests}
use Rattle.std.specs.Char.{is_ascii_digit}
use Rattle.std.specs.Str.{all_ascii_digits}

unpadded_space : (bs : List ℕ) → unpadded (32 ∷ bs) ≡ unpadded bs
unfolding unpadded
unpadded_space bs = refl

unpadded_other : (b : ℕ) (bs : List ℕ) → (b ≡ 32 → ⊥) → unpadded (b ∷ bs) ≡ b ∷ bs
unfolding unpadded
unpadded_other b bs other = rw (ne_eqb b 32 other) refl

pub unpadded_spaces : (k : ℕ) (ds : List ℕ) → unpadded (replicate k 32 ++ ds) ≡ unpadded ds
unpadded_spaces zero ds = refl
unpadded_spaces (suc k) ds = unpadded_space (replicate k 32 ++ ds) ∙ unpadded_spaces k ds

pub unpadded_digits : (ds : List ℕ) → all_ascii_digits ds ≡ true → unpadded ds ≡ ds
unfolding unpadded
unpadded_digits [] all = refl
unpadded_digits (d ∷ ds) all =
    let digit : is_ascii_digit d ≡ true = (and_parts (is_ascii_digit d) (all_ascii_digits ds) all).0 in
    unpadded_other d ds (λ space. grind (arith, nat_tests))

-- a field is spaces and then what follows them
pub padding : (bs : List ℕ) → (k : ℕ) × (bs ≡ replicate k 32 ++ unpadded bs)
unfolding unpadded
padding [] = (0, refl)
padding (b ∷ bs) = ⊎_elim
    (λ (space : eqb b 32 ≡ true).
    let rest = padding bs in
    let same = rest.1 in
    let is = eqb-true b 32 space in
    (suc rest.0, rw space (cc)))
    (λ (other : eqb b 32 ≡ false). (0, rw other refl))
    (cases_Bool (eqb b 32))

-- a space in front may go
pub unpadded_rest : (bs : List ℕ) → 0 < length bs → get_or bs 0 0 ≡ 32 → unpadded (take (length bs - 1) (drop 1 bs)) ≡ unpadded bs
unpadded_rest [] some space = absurd (omega arith)
unpadded_rest (b ∷ bs) some space =
    let first : b ≡ 32 = space in
    ap unpadded (take_rest (b ∷ bs) 1) ∙ rw first (sym (unpadded_space bs))

-- and where none stands there, that is all
pub unpadded_bare : (bs : List ℕ) → (0 < length bs → get_or bs 0 0 ≡ 32 → ⊥) → unpadded bs ≡ bs
unfolding unpadded
unpadded_bare [] other = refl
unpadded_bare (b ∷ bs) other = unpadded_other b bs (other (omega arith))
