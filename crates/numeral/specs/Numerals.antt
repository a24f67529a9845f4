-- Decimal numbers in fields of bytes, right-justified behind spaces.
use Rattle.std.specs.Prelude.{◌≡◌, ℕ, ◌+◌, ◌-◌, ◌*◌, ◌^◌, ◌<◌, Bool, false, cond, ◌&&◌, ◌||◌, List, [], ◌∷◌, ◌++◌, length, replicate, Some, None, decimal, Option, ◌==◌, nat_lt}
use Rattle.std.specs.Str.{all_ascii_digits}

-- n in a field of width w: spaces, and then its decimal numeral
unfoldable pub justified : ℕ → ℕ → List ℕ
justified w n = replicate (w - length (decimal n)) 32 ++ decimal n

-- the field is n justified, and n has at most 32 bits
abbrev pub Holds : List ℕ → ℕ → Type 0
Holds field n = (n < 2 ^ 32) × (field ≡ justified (length field) n)

-- what follows the leading spaces
unfoldable pub unpadded : List ℕ → List ℕ
unpadded [] = []
unpadded (b ∷ bs) = cond (b == 32) (unpadded bs) (b ∷ bs)

-- one digit or more and nothing else, and a zero in front only where it stands alone
unfoldable pub plain : List ℕ → Bool
plain [] = false
plain (d ∷ ds) = all_ascii_digits (d ∷ ds) && (nat_lt 48 d || length ds == 0)

-- the number that the digits ds write behind those of n
unfoldable pub value_after : ℕ → List ℕ → ℕ
value_after n [] = n
value_after n (d ∷ ds) = value_after (n * 10 + (d - 48)) ds

-- the number of a plain numeral, if it has at most 32 bits
unfoldable pub figure : List ℕ → Option ℕ
figure ds = cond (plain ds && nat_lt (value_after 0 ds) (2 ^ 32)) (Some (value_after 0 ds)) None

-- the number that a field holds, if it holds one
unfoldable pub numeral : List ℕ → Option ℕ
numeral field = figure (unpadded field)
