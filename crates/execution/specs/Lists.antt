-- Lists of event numbers.
use Rattle.std.specs.Prelude.{◌≡◌, ℕ, zero, suc, ◌<◌, Bool, true, false, cond, not, ◌&&◌, ◌||◌, List, [], ◌∷◌, ◌++◌, length, ◌==◌, ◌≢◌, slice_index}

-- a stands in the list
abbrev pub holds : List ℕ → ℕ → Bool
holds [] a = false
holds (x ∷ xs) a = x == a || holds xs a

-- a stands somewhere before b
abbrev pub precedes : List ℕ → ℕ → ℕ → Bool
precedes [] a b = false
precedes (x ∷ xs) a b = (x == a && holds xs b) || precedes xs a b

-- nothing stands twice
abbrev pub distinct : List ℕ → Bool
distinct [] = true
distinct (x ∷ xs) = not (holds xs x) && distinct xs

-- the numbers below n, rising
abbrev pub upto : ℕ → List ℕ
upto zero = []
upto (suc n) = upto n ++ (n ∷ [])

-- the list with w directly after v
abbrev pub insert_after : ℕ → ℕ → List ℕ → List ℕ
insert_after v w [] = []
insert_after v w (x ∷ xs) = x ∷ cond (x == v) (w ∷ xs) (insert_after v w xs)

-- a stands at index i, and nowhere before
abbrev pub FirstAt : List ℕ → ℕ → ℕ → Type 0
FirstAt xs a i = (i < length xs) × (slice_index xs i ≡ a) × ((k : ℕ) → k < i → slice_index xs k ≢ a)
