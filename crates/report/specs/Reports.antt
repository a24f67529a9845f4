-- The report of a verdict, byte by byte.
use Rattle.std.specs.Prelude.{ℕ, suc, List, [], ◌∷◌, ◌++◌, length}
use Rattle.event.specs.Labels.{is_write}
use Rattle.execution.specs.Content.{Content, label_of, is_open}
use Rattle.verdict.specs.Numbers.{count}
use Rattle.verdict.specs.Answers.{Answer, allowed, cyclic, no_placement, denied}
use Rattle.report.specs.Pages.{report_line}

-- a line for each event of a list under a letter and the list's number, with its position, counted on from i
unfoldable pub lines_from : ℕ → ℕ → ℕ → List ℕ → List ℕ
lines_from letter k i [] = []
lines_from letter k i (x ∷ xs) = report_line letter k i x ++ lines_from letter k (suc i) xs

-- list after list, numbered on from k
unfoldable pub lists_from : ℕ → ℕ → List (List ℕ) → List ℕ
lists_from letter k [] = []
lists_from letter k (xs ∷ xss) = lines_from letter k 0 xs ++ lists_from letter (suc k) xss

-- how many writes a graph has, initial ones and updates included
abbrev pub writes : Content → ℕ
writes g = count (length g.events) (λ w. is_write (label_of g w))

-- how many of them are open
abbrev pub open_writes : Content → ℕ
open_writes g = count (length g.events) (is_open g)

-- what an answer is reported as: A, O and M lines, X and C lines, or an N line; nothing where it is denied
unfoldable pub report : Content → Answer → List ℕ
report g (allowed lists orders) = report_line 65 (length lists) (length g.events) (writes g) ++ (lists_from 79 0 lists ++ lists_from 77 0 orders)
report g (cyclic k xs) = report_line 88 k (length xs) (length g.events) ++ lines_from 67 k 0 xs
report g no_placement = report_line 78 (open_writes g) (length g.events) (writes g)
report g (denied d) = []
