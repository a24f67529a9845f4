-- An item that is rotated from the end of a list to an index is inserted there.
use Rattle.std.proofs.Common.{◌≡◌, ℕ, ◌+◌, ◌-◌, ◌<◌, ◌≤◌, List, [], ◌∷◌, ◌++◌, length, take, drop, sym, ap, ◌∙◌, ap₂, arith}
use Rattle.std.specs.List.{insert}
use Rattle.std.proofs.lemmas.List.{length-append, length-drop, length-take-le, take-take, take_at, take-append-le, drop_at, drop-append-le, drop-take}
use Rattle.std.proofs.lemmas.Slice.{take-put_mid}
use borrow.Rule.Slice.PartMut.{put_mid, mid_of}

pub rotated : {A : Type 0} (ps os : List A) (x : A) (at n : ℕ) (ys : List A) → at < n → n ≤ length ps → take n ps ≡ os ++ x ∷ [] →
    ys ≡ drop (length (mid_of at (n - at) ps) - 1) (mid_of at (n - at) ps) ++ take (length (mid_of at (n - at) ps) - 1) (mid_of at (n - at) ps) →
    take n (put_mid at (n - at) ps ys) ≡ insert os at x
rotated {A} ps os x at n ys within fits e turned =
    let long : length os + 1 ≡ n = omega (arith, simp length-append at (ap length e), length-take-le n ps fits) in
    let same : at + (n - at) ≡ n = omega arith in
    let front : take at ps ≡ take at os = sym (take-take at n ps (omega arith)) ∙ ap (take at) e ∙ take-append-le at os (x ∷ []) (omega arith) in
    let mid : mid_of at (n - at) ps ≡ drop at os ++ x ∷ [] = sym (drop-take at (n - at) ps) ∙ ap (λ k. drop at (take k ps)) same ∙ ap (drop at) e ∙ drop-append-le at os (x ∷ []) (omega arith) in
    let last : length (drop at os) ≡ length (drop at os ++ x ∷ []) - 1 = simp length-append (omega arith) in
    let behind : ys ≡ x ∷ drop at os = turned ∙ ap (λ (m : List A). drop (length m - 1) m ++ take (length m - 1) m) mid ∙ ap₂ ◌++◌ (drop_at (drop at os) (x ∷ []) _ last) (take_at (drop at os) (x ∷ []) _ last) in
    take-put_mid at (n - at) ps ys n (omega (arith, ap length behind, length-drop at os)) (omega arith) ∙ ap₂ ◌++◌ front behind
