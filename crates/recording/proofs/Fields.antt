-- Fields: where each is cut.
use Rattle.std.proofs.Common.{take_all, ◌≡◌, ℕ, zero, suc, ◌+◌, ◌-◌, ◌<◌, ◌≤◌, Bool, true, false, List, [], ◌∷◌, ◌++◌, length, get_or, set, take, drop, map, Some, None, Option, sym, refl, ap, ◌∙◌, arith}
use Rattle.std.proofs.lemmas.List.{take_more_set, drop_all}
use Rattle.event.specs.declared.denial.Denial.{Denial}
use Rattle.event.specs.Denials.{unless}
use Rattle.recording.specs.declared.layout.Position.{Position}
use Rattle.recording.specs.declared.layout.Position.TheVariants.{First, Second, Third, Fourth, Fifth}
use Rattle.recording.specs.Layout.{column, field, position_number}
use Rattle.recording.specs.Rules.{positions, first_of}

-- a field as it is cut out of the rest of a line
pub cut_is_field : (xs : List ℕ) (a b p : ℕ) → 1 ≤ p → p ≤ 5 → a ≡ column p → b ≡ column (p + 1) → take ((b - 2) - (a - 2)) (drop (a - 2) xs) ≡ field xs p
unfolding field
cut_is_field xs a b zero low high ea eb = absurd (omega arith)
cut_is_field xs a b (suc zero) low high ea eb = rw (ea, eb)
cut_is_field xs a b (suc (suc zero)) low high ea eb = rw (ea, eb)
cut_is_field xs a b (suc (suc (suc zero))) low high ea eb = rw (ea, eb)
cut_is_field xs a b (suc (suc (suc (suc zero)))) low high ea eb = rw (ea, eb)
cut_is_field xs a b (suc (suc (suc (suc (suc zero))))) low high ea eb = rw (ea, eb)
cut_is_field xs a b (suc (suc (suc (suc (suc (suc p)))))) low high ea eb = absurd (omega arith)

-- the five positions, in their order
abbrev pub all : List Position
all = First ∷ Second ∷ Third ∷ Fourth ∷ Fifth ∷ []

pub number_at : (i : ℕ) (d : Position) → i < 5 → position_number (get_or all i d) ≡ i + 1
number_at zero d h = refl
number_at (suc zero) d h = refl
number_at (suc (suc zero)) d h = refl
number_at (suc (suc (suc zero))) d h = refl
number_at (suc (suc (suc (suc zero)))) d h = refl
number_at (suc (suc (suc (suc (suc i))))) d h = absurd (omega arith)

from_one : (i : ℕ) → i < 5 → drop i positions ≡ (i + 1) ∷ drop (i + 1) positions
from_one zero h = refl
from_one (suc zero) h = refl
from_one (suc (suc zero)) h = refl
from_one (suc (suc (suc zero))) h = refl
from_one (suc (suc (suc (suc zero)))) h = refl
from_one (suc (suc (suc (suc (suc i))))) h = absurd (omega arith)

module _ (f : ℕ → Bool) (e : ℕ → Denial) (o : Option Denial) (i : ℕ) (d : Position) (h : i < 5) (before : o ≡ first_of (drop i positions) f e) where
  pub passes_at : f (position_number (get_or all i d)) ≡ true → o ≡ first_of (drop (i + 1) positions) f e
  passes_at p =
      let p' : f (i + 1) ≡ true = ap f (sym (number_at i d h)) ∙ p
      in before ∙ rw (from_one i h, p')

  pub fails_at : f (position_number (get_or all i d)) ≡ false → o ≡ Some (e (position_number (get_or all i d)))
  fails_at p =
      let p' : f (i + 1) ≡ false = ap f (sym (number_at i d h)) ∙ p
      in before ∙ rw (from_one i h, p', number_at i d h)

-- what the answer of one test says of it
pub passed : (b : Bool) (d : Denial) → unless b d None ≡ None → b ≡ true
passed true d e = refl
passed false d e = cc

pub denied_at : (b : Bool) (d x : Denial) → unless b d None ≡ Some x → (b ≡ false) × (x ≡ d)
denied_at true d x e = (cc, cc)
denied_at false d x e = (refl, cc)

one_more : (f : ℕ → ℕ) (i : ℕ) → i < 5 → map f (take (i + 1) positions) ≡ map f (take i positions) ++ (f (i + 1) ∷ [])
one_more f zero h = refl
one_more f (suc zero) h = refl
one_more f (suc (suc zero)) h = refl
one_more f (suc (suc (suc zero))) h = refl
one_more f (suc (suc (suc (suc zero)))) h = refl
one_more f (suc (suc (suc (suc (suc i))))) h = absurd (omega arith)

-- the numbers read so far, with the next one
pub stored : (f : ℕ → ℕ) (xs : List ℕ) (i v : ℕ) (d : Position) → i < 5 → i < length xs → take i xs ≡ map f (take i positions) → v ≡ f (position_number (get_or all i d)) → take (i + 1) (set xs i v) ≡ map f (take (i + 1) positions)
stored f xs i v d h long before e =
    let e' : v ≡ f (i + 1) = e ∙ ap f (number_at i d h)
    in take_more_set xs i v long ∙ rw (before, e', one_more f i h)

-- after the fifth no field is left, and every number is read
pub all_read : (f : ℕ → ℕ) (xs : List ℕ) (o : Option Denial) (t : ℕ → Bool) (e : ℕ → Denial) (i : ℕ) → 5 ≤ i → length xs ≤ 5 → o ≡ first_of (drop i positions) t e → take i xs ≡ map f (take i positions) → (o ≡ None) × (xs ≡ map f positions)
all_read f xs o t e i h long before same =
    let p : drop i positions ≡ [] = drop_all i positions h
    in let q : take i xs ≡ xs = take_all i xs (omega arith)
    in let r : take i positions ≡ positions = take_all i positions h
    in (before ∙ rw p, sym q ∙ same ∙ rw r)
