-- What makes each outcome of a judge right, and how a sheet is written number by number.
use Rattle.std.proofs.Common.{◌≡◌, ℕ, suc, ◌<◌, ◌≤◌, List, [], ◌∷◌, ◌++◌, length, get_or, set, Some, None, Ok, Err, Option, sym, refl, ap, subst, arith}
use Rattle.event.specs.declared.denial.Denial.{Denial}
use Rattle.execution.specs.Content.{Content}
use Rattle.cycles.specs.Cycles.{Acyclic, FirstCycle}
use Rattle.cycles.specs.Listings.{Listing}
use Rattle.model.specs.Meaning.{Meaning, Serves}
use Rattle.verdict.specs.declared.verdict.Verdict.TheVariants.{Allowed as is_allowed, Cycle as has_cycle, NoPlacement as has_no_placement}
use Rattle.verdict.specs.Completions.{Allowed}
use Rattle.verdict.specs.Places.{PlacedFirst}
use Rattle.verdict.specs.Shown.{modification_orders}
use Rattle.verdict.specs.States.{State}
use Rattle.verdict.specs.Denials.{judge_denial}
use Rattle.verdict.specs.Answers.{Answer, allowed, cyclic, no_placement, denied, Found, RightUnless, joined, told, written, laid}
use Rattle.verdict.specs.Judging.{Judged}

-- one more number behind those that are written
pub laid_push : (xs sheet : List ℕ) (x : ℕ) → length xs < length sheet → set (laid xs sheet) (length xs) x ≡ laid (xs ++ (x ∷ [])) sheet
laid_push xs [] x l = absurd (omega arith)
laid_push [] (s ∷ sheet) x l = refl
laid_push (y ∷ xs) (s ∷ sheet) x l = ap (λ (zs : List ℕ). y ∷ zs) (laid_push xs sheet x (omega arith))

pub laid_length : (xs sheet : List ℕ) → length xs ≤ length sheet → length (laid xs sheet) ≡ length sheet
laid_length [] sheet l = refl
laid_length (x ∷ xs) [] l = absurd (omega arith)
laid_length (x ∷ xs) (s ∷ sheet) l = ap suc (laid_length xs sheet (omega arith))

module _ (m : Meaning) (s : State) (before : List ℕ) where
  pub judged_denied : (d : Denial) → judge_denial s (length before) ≡ Some d → Judged m s before (Err d) before
  judged_denied d e = record {
    answer = denied d;
    right = subst (λ (o : Option Denial). RightUnless o m s.content (denied d)) (sym e) refl;
    returned = refl;
    sheet = refl;
  }

  module _ (fine : judge_denial s (length before) ≡ None) where
    found_right : (a : Answer) → Found m s.content a → Judged m s before (told a) (laid (written a) before)
    found_right a f = record {
      answer = a;
      right = subst (λ (o : Option Denial). RightUnless o m s.content a) (sym fine) f;
      returned = refl;
      sheet = refl;
    }

    pub judged_cyclic : (k : ℕ) (xs : List ℕ) → k < m.orders → ((j : ℕ) → j < k → Acyclic (m.pairs s.content j)) → FirstCycle (m.pairs s.content k) xs
        → Judged m s before (Ok (has_cycle k (length xs))) (laid xs before)
    judged_cyclic k xs l none first = found_right (cyclic k xs) (l, none, first)

    pub judged_no_placement : Serves m s.content → (Allowed m s.content → ⊥) → Judged m s before (Ok has_no_placement) before
    judged_no_placement serves none = found_right no_placement (serves, none)

    pub judged_allowed : (h : Content) (lists : List (List ℕ)) → PlacedFirst m s.content h → length lists ≡ m.orders
        → ((k : ℕ) → k < m.orders → Listing (m.pairs h k) (length h.events) (get_or lists k []))
        → Judged m s before (Ok is_allowed) (laid (joined lists ++ joined (modification_orders h)) before)
    judged_allowed h lists p e listed = found_right (allowed lists (modification_orders h)) (h, record { placed = p; as_many = e; listed = listed; ordered = refl })
