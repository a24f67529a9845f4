-- When a line has a kind.
use Rattle.std.proofs.Common.{◌≡◌, ℕ, ◌+◌, ◌-◌, true, false, cond, ◌&&◌, eqb, List, length, get_or, take, drop, None, refl, ap, ◌∙◌, Some, Option, Ok, Err, arith}
use Rattle.std.specs.Option.{ok_or}
use Rattle.event.specs.declared.denial.Denial.{Denial}
use Rattle.event.specs.declared.denial.Denial.TheVariants.{Line}
use Rattle.recording.specs.declared.layout.LineKind.{LineKind}
use Rattle.std.proofs.lemmas.List.{take_rest, get_or-drop, length-drop}
use Rattle.std.proofs.lemmas.Bool.{eq-eqb, ne_eqb}
use Rattle.recording.specs.Layout.{kind, lettered}

pub kind_none_by_length : (line : List ℕ) → (length line ≡ 34 → ⊥) → kind line ≡ None
unfolding kind
kind_none_by_length line h = rw (ne_eqb (length line) 34 h)

pub kind_none_by_end : (line : List ℕ) → (get_or line 33 0 ≡ 10 → ⊥) → kind line ≡ None
unfolding kind
kind_none_by_end line h = rw (ne_eqb (get_or line 33 0) 10 h) (elim (eqb (length line) 34) as (λ b. cond (b && false) (lettered (get_or line 0 0)) None ≡ None) [ true ↦ refl | false ↦ refl ])

pub kind_by_letter : (line : List ℕ) → length line ≡ 34 → get_or line 33 0 ≡ 10 → kind line ≡ lettered (get_or line 0 0)
unfolding kind
kind_by_letter line long end = rw (eq-eqb (length line) 34 long, eq-eqb (get_or line 33 0) 10 end)

-- the rest of a line, as a slice pattern gives it
pub part_is_rest : (line : List ℕ) → take (length line - 1) (drop 1 line) ≡ drop 1 line
part_is_rest line = take_rest line 1

pub rest_length : (line : List ℕ) → length (take (length line - 1) (drop 1 line)) ≡ length line - 1
rest_length line = ap length (part_is_rest line) ∙ length-drop 1 line

pub rest_at : (line : List ℕ) (i : ℕ) → get_or (take (length line - 1) (drop 1 line)) i 0 ≡ get_or line (1 + i) 0
rest_at line i = ap (λ xs. get_or xs i 0) (part_is_rest line) ∙ get_or-drop 1 line i 0

-- a letter's kind or denial, as it was asked for
pub known_letter : (o : Option LineKind) (k : LineKind) → Ok k ≡ ok_or o Line → o ≡ Some k
known_letter o k e = grind arith

pub unknown_letter : (o : Option LineKind) (d : Denial) → Err d ≡ ok_or o Line → (o ≡ None) × (d ≡ Line)
unknown_letter o d e = (grind arith, grind arith)
