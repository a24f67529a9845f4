-- An event that is pushed where there is room stands at the end.
use Rattle.std.proofs.Common.{◌≡◌, ℕ, ◌<◌, cond, ltb, List, [], ◌∷◌, ◌++◌, length, sym, ◌∙◌}
use Rattle.std.proofs.lemmas.Bool.{cond_below}

pub appended : (xs ys : List ℕ) (x : ℕ) → ys ≡ cond (ltb (length xs) 256) (xs ++ (x ∷ [])) xs → length xs < 256 → ys ≡ xs ++ (x ∷ [])
appended xs ys x e room = e ∙ sym (cond_below (length xs) 256 _ _ room)
