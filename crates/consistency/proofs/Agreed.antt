-- A right answer on a closed graph, in the textbook's terms.
use Rattle.std.proofs.Common.{◌≡◌, ℕ, zero, suc, ◌<◌, Bool, true, false, cond, not, T, ◌↔◌, List, length, get_or, is_some, IfOk, Some, None, Ok, Err, Option, Result, sym, refl, ap, ◌∙◌, subst, inl, inr, arith}
use Rattle.std.proofs.lemmas.Bool.{cases_lt}
use Rattle.event.specs.declared.denial.Denial.{Denial}
use Rattle.event.specs.declared.denial.Denial.TheVariants.{Unread}
use Rattle.event.specs.declared.event.Event.{Event}
use Rattle.event.specs.Labels.{is_read, no_event}
use Rattle.execution.specs.Content.{Content, label_of, source_of}
use Rattle.execution.specs.Sound.{Sound}
use Rattle.execution.proofs.Tests.{both}
use Rattle.execution.proofs.Among.{read_among}
use Rattle.boards.specs.declared.board.Board.{Board}
use Rattle.boards.specs.Agreement.{Full}
use Rattle.boards.specs.Boards.{meaning_of}
use Rattle.boards.specs.OfBoard.{board_rules, board_follows}
use Rattle.verdict.specs.declared.verdict.Verdict.{Verdict}
use Rattle.verdict.specs.Numbers.{lowest}
use Rattle.verdict.specs.Completions.{Completion, Allowed}
use Rattle.verdict.specs.States.{as_closed}
use Rattle.verdict.specs.Denials.{unlinked, judge_denial}
use Rattle.verdict.specs.Answers.{Answer, allowed, cyclic, no_placement, denied, RightUnless, told}
use Rattle.verdict.specs.Judging.{Judged}
use Rattle.verdict.proofs.Runs.{some_serves, none_serves}
use Rattle.consistency.specs.Consistency.{SomeOrderIsConsistent, AllowedExactlyWhenConsistent}
use Rattle.event.specs.Denials.{or_else}

-- where the lowest that passes is none, none passes
lowest_misses : (n : ℕ) (p : ℕ → Bool) → lowest n p ≡ None → (a : ℕ) → a < n → T (p a) → ⊥
lowest_misses zero p e a l h = omega arith
lowest_misses (suc n) p e a l h = by (λ i m. lowest_misses n p i a m h) (lowest n p) refl (p n) refl e
  where
    by : (lowest n p ≡ None → a < n → ⊥) → (o : Option ℕ) → lowest n p ≡ o → (b : Bool) → p n ≡ b → ◌≡◌ {A = Option ℕ} (elim o [ Some c ↦ Some c | None ↦ cond b (Some n) None ]) None → ⊥
    by ih (Some c) i b j k = let z : ◌≡◌ {A = ℕ} 0 1 = cc in omega arith
    by ih None i true j k = let z : ◌≡◌ {A = ℕ} 0 1 = cc in omega arith
    by ih None i false j k = elim (cases_lt a n) [
      | inl m ↦ ih i m
      | inr m ↦ let same : a ≡ n = omega arith in subst T (ap p same ∙ j) h
    ]

-- a closed graph whose judge is not denied has every read linked
all_linked : (g : Content) (n : ℕ) → judge_denial (as_closed g) n ≡ None → (r : ℕ) → T (is_read (label_of g r)) → T (is_some (source_of g r))
all_linked g n e r h = by (is_some (source_of g r)) refl
  where
    none : (o : Option ℕ) (rest : Option Denial) → or_else (elim o [ Some x ↦ Some (Unread x) | None ↦ None ]) rest ≡ None → o ≡ None
    none None rest k = refl
    none (Some x) rest k = let z : ◌≡◌ {A = ℕ} 0 1 = cc in absurd (omega arith)

    by : (b : Bool) → is_some (source_of g r) ≡ b → T b
    by true i = tt
    by false i = lowest_misses (length g.events) (unlinked g) (none (lowest (length g.events) (unlinked g)) _ e) r (read_among g r h) (both (is_read (label_of g r)) (not (is_some (source_of g r))) h (subst (λ (b : Bool). T (not b)) (sym i) tt))

-- a completion of such a graph is full
full : (g h : Content) (n : ℕ) → judge_denial (as_closed g) n ≡ None → Completion g h → Full h
full g h n e c = record {
  all_placed = c.full;
  all_linked = λ r k. subst (λ ss. T (is_some (get_or ss r None))) (sym c.sources) (all_linked g n e r (subst (λ (es : List Event). T (is_read (get_or es r no_event).label)) c.events k));
}

-- some completion serves exactly when some order is consistent
serves_consistent : (b : Board) (g : Content) (n : ℕ) → judge_denial (as_closed g) n ≡ None → Allowed (meaning_of b) g ↔ SomeOrderIsConsistent b g
serves_consistent b g n e = (
  (λ (h, c, s). (h, c, (board_follows b h c.sound (full g h n e c)).0 s)),
  (λ (h, c, s). (h, c, (board_follows b h c.sound (full g h n e c)).1 s)),
)

agreed_by : (b : Board) (g : Content) (n : ℕ) → Sound g → (a : Answer) (v : Verdict) → Ok v ≡ told a → (o : Option Denial) → judge_denial (as_closed g) n ≡ o → RightUnless o (meaning_of b) g a → AllowedExactlyWhenConsistent b g v
agreed_by b g n s a v e (Some d) i r = let z : ◌≡◌ {A = ℕ} 0 1 = other in absurd (omega arith)
  where
    other : ◌≡◌ {A = ℕ} 0 1
    other = let told-so : Ok v ≡ told (denied d) = e ∙ ap told r in cc
agreed_by b g n s (allowed lists orders) v e None i r = ((λ _. (serves_consistent b g n i).0 (some_serves (meaning_of b) g (allowed lists orders) r tt)), (λ _. cc))
agreed_by b g n s (cyclic k xs) v e None i r = (
  (λ j. let z : ◌≡◌ {A = ℕ} 0 1 = cc in absurd (omega arith)),
  (λ c. absurd (none_serves (meaning_of b) g s (board_rules b) (cyclic k xs) r tt ((serves_consistent b g n i).1 c))),
)
agreed_by b g n s no_placement v e None i r = (
  (λ j. let z : ◌≡◌ {A = ℕ} 0 1 = cc in absurd (omega arith)),
  (λ c. absurd (none_serves (meaning_of b) g s (board_rules b) no_placement r tt ((serves_consistent b g n i).1 c))),
)
agreed_by b g n s (denied d) v e None i r = absurd r

pub agreed : (b : Board) (g : Content) → Sound g → (before after : List ℕ) (r : Result Verdict Denial) → Judged (meaning_of b) (as_closed g) before r after → IfOk r (λ v. AllowedExactlyWhenConsistent b g v)
agreed b g s before after (Ok v) j = agreed_by b g (length before) s j.answer v j.returned (judge_denial (as_closed g) (length before)) refl j.right
agreed b g s before after (Err d) j = tt
