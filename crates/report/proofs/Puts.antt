-- Texts put on a page one after the other.
use Rattle.std.proofs.Common.{◌≡◌, ℕ, ◌+◌, ◌≤◌, List, [], ◌++◌, length, take, drop, sym, ap, ◌∙◌, ap₂, add-zero, zero-add, arith}
use Rattle.std.proofs.lemmas.List.{append_assoc, length-append, length-take-le, take-append-drop, drop-drop, take_at, drop_at}
use Rattle.verdict.specs.Answers.{laid}
use Rattle.report.specs.Texts.{put}

pub put_none : (at : ℕ) (s : List ℕ) → put at [] s ≡ s
unfolding put
put_none at s = ap (λ (n : ℕ). take at s ++ drop n s) (add-zero at) ∙ take-append-drop at s

-- a part more
pub put_put : (at : ℕ) (xs ys s : List ℕ) → at + length xs ≤ length s → put (at + length xs) ys (put at xs s) ≡ put at (xs ++ ys) s
unfolding put
put_put at xs ys s l =
    let n : ℕ = at + length xs in
    let p : List ℕ = take at s ++ xs in
    let front : length p ≡ n = length-append (take at s) xs ∙ ap (λ (k : ℕ). k + length xs) (length-take-le at s (omega arith)) in
    let more : n + length ys ≡ at + length (xs ++ ys) = omega (arith, length-append xs ys) in
    ap (λ (zs : List ℕ). take n zs ++ (ys ++ drop (n + length ys) zs)) (sym (append_assoc (take at s) xs (drop n s)))
    ∙ ap₂ (λ (us vs : List ℕ). us ++ (ys ++ vs)) (take_at p (drop n s) n front)
    (sym (drop-drop (length ys) n (p ++ drop n s)) ∙ ap (drop (length ys)) (drop_at p (drop n s) n front) ∙ drop-drop (length ys) n s)
    ∙ append_assoc (take at s) xs (ys ++ drop (n + length ys) s)
    ∙ ap (λ (zs : List ℕ). take at s ++ zs) (sym (append_assoc xs ys (drop (n + length ys) s)) ∙ ap (λ (k : ℕ). (xs ++ ys) ++ drop k s) more)

-- at the start of a page
pub put_start : (xs s : List ℕ) → put 0 xs s ≡ laid xs s
unfolding put
put_start xs s = ap (λ (n : ℕ). xs ++ drop n s) (zero-add (length xs))
