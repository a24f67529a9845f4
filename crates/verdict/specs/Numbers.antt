-- Numbers that pass a test.
use Rattle.std.specs.Prelude.{ℕ, zero, suc, ◌+◌, Bool, cond, Some, None, Option}

-- how many below n pass
abbrev pub count : ℕ → (ℕ → Bool) → ℕ
count zero p = 0
count (suc n) p = cond (p n) 1 0 + count n p

-- the lowest below n that passes
abbrev pub lowest : ℕ → (ℕ → Bool) → Option ℕ
lowest zero p = None
lowest (suc n) p = elim (lowest n p) [ Some a ↦ Some a | None ↦ cond (p n) (Some n) None ]
