-- The plain line that tells what was read.
use Rattle.std.specs.Prelude.{ℕ, List, ◌++◌, codes, decimal}

abbrev pub tallied : ℕ → ℕ → ℕ → ℕ → ℕ → List ℕ
tallied threads locations events links placed =
    codes "read: " ++ (decimal threads ++ (codes " threads, " ++ (decimal locations ++ (codes " locations, " ++ (decimal events ++ (codes " events, " ++ (decimal links ++ (codes " links, " ++ (decimal placed ++ codes " placed writes")))))))))
