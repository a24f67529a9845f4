-- What an answer was before its denial was mapped.
use Rattle.std.proofs.Common.{◌≡◌, ℕ, Ok, Err, Result, MatchResult, IsErrAnd, ◌∙◌, arith}
use Rattle.std.proofs.lemmas.Result.{err_from_is_err_and}

module _ {A D E : Type 0} {r : Result A D} {s : Result A E} (Q : D → E → Type 0) (mapped : MatchResult r (λ x. s ≡ Ok x) (λ d. IsErrAnd s (Q d))) where
  pub answered : (x : A) → s ≡ Ok x → r ≡ Ok x
  answered x e = elim r as (λ r. MatchResult r (λ x. s ≡ Ok x) (λ d. IsErrAnd s (Q d)) → r ≡ Ok x) [
    | Ok y ↦ λ m. let same : s ≡ Ok y = m in cc
    | Err d ↦ λ m. let p = err_from_is_err_and s m in let q : s ≡ Err p.0 = p.1 in cc
  ] mapped

  pub refused : (f : D → E) → ((d : D) (y : E) → Q d y → y ≡ f d) → (x : E) → s ≡ Err x → (d : D) × (r ≡ Err d) × (x ≡ f d)
  refused f made x e = elim r as (λ r. MatchResult r (λ x. s ≡ Ok x) (λ d. IsErrAnd s (Q d)) → (d : D) × (r ≡ Err d) × (x ≡ f d)) [
    | Ok y ↦ λ m. let same : s ≡ Ok y = m in let z : ◌≡◌ {A = ℕ} 0 1 = cc in absurd (omega arith)
    | Err d ↦ λ m.
        let p = err_from_is_err_and s m
        in let q : s ≡ Err p.0 = p.1
        in let same : x ≡ p.0 = cc
        in (d, cc, same ∙ made d p.0 p.2)
  ] mapped
