-- The report of a verdict from the sheet that a judge leaves, on which lists stand one after the other.
use Rattle.std.specs.Prelude.{ℕ, zero, suc, ◌*◌, cond, List, [], ◌∷◌, ◌++◌, length, take, drop, nat_lt}
use Rattle.execution.specs.Content.{Content}
use Rattle.verdict.specs.declared.verdict.Verdict.{Verdict}
use Rattle.verdict.specs.declared.verdict.Verdict.TheVariants.{Allowed as is_allowed, Cycle as has_cycle, NoPlacement as has_no_placement}
use Rattle.verdict.specs.Answers.{cyclic, no_placement}
use Rattle.report.specs.Pages.{report_line}
use Rattle.report.specs.Reports.{lists_from, writes, report}

-- the first k lists of n numbers each
unfoldable pub cut : ℕ → ℕ → List ℕ → List (List ℕ)
cut zero n xs = []
cut (suc k) n xs = take n xs ∷ cut k n (drop n xs)

-- a line for each write of modification orders in a row: one below n is initial, and with it the order of its location begins
unfoldable pub orders_from : ℕ → ℕ → ℕ → List ℕ → List ℕ
orders_from n l i [] = []
orders_from n l i (x ∷ xs) =
    report_line 77 (cond (nat_lt x n) x l) (cond (nat_lt x n) 0 i) x ++ orders_from n (cond (nat_lt x n) x l) (suc (cond (nat_lt x n) 0 i)) xs

-- how many numbers of the sheet are a cycle
abbrev pub cycle_length : Verdict → ℕ
cycle_length is_allowed = 0
cycle_length (has_cycle order n) = n
cycle_length has_no_placement = 0

-- the report of a verdict by so many orders from a sheet: of an allowed graph by its lists, and behind them its modification orders
unfoldable pub from_sheet : Content → Verdict → ℕ → List ℕ → List ℕ
from_sheet g is_allowed k sheet =
    let n = length g.events in
    report_line 65 k n (writes g) ++ (lists_from 79 0 (cut k n (take (k * n) sheet)) ++ orders_from g.locations 0 0 (take (writes g) (drop (k * n) sheet)))
from_sheet g (has_cycle order n) k sheet = report g (cyclic order (take n sheet))
from_sheet g has_no_placement k sheet = report g no_placement
