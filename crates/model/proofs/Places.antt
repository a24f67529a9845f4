-- What is read of a graph's events, by place.
use Rattle.std.proofs.Common.{◌≡◌, ℕ, ◌<◌, ◌≤◌, Bool, false, cond, not, ◌&&◌, T, eqb, ltb, List, length, get_or, Some, None, Option, sym, refl, ap, ◌∙◌, subst, inl, inr, arith}
use lib.ListN.{get_or-eq_default}
use Rattle.std.proofs.lemmas.List.{get_or_default}
use Rattle.std.proofs.lemmas.Bool.{cases_lt, lt-ltb, le-ltb}
use Rattle.std.proofs.lemmas.Bool.Decides.{nat_tests}
use Rattle.event.specs.declared.event.Label.{Label}
use Rattle.event.specs.Labels.{no_event, agree, location}
use Rattle.execution.specs.Content.{Content, source_of, label_of, same_location, mo, rb, overwrites}
use Rattle.model.specs.Layers.{strong_fence}

-- at any default, and in an equal list
pub at_any : {A : Type 0} (xs ys : List A) (k : ℕ) (d e : A) → xs ≡ ys → k < length xs → get_or xs k d ≡ get_or ys k e
at_any xs ys k d e same within = get_or_default xs k d e within ∙ ap (λ zs. get_or zs k e) same

pub agree_turned : (o p : Option ℕ) → agree o p ≡ agree p o
agree_turned None None = refl
agree_turned None (Some y) = refl
agree_turned (Some x) None = refl
agree_turned (Some x) (Some y) = grind (arith, nat_tests)

pub agree_none : (o : Option ℕ) → agree None o ≡ false
agree_none None = refl
agree_none (Some y) = refl

-- past the last event there is no location
pub location_past : (g : Content) (a : ℕ) → length g.events ≤ a → location (label_of g a) ≡ None
location_past g a l = ap (λ e. location e.label) (get_or-eq_default g.events no_event l)

pub access_among : (g : Content) (a : ℕ) (o : Option ℕ) → T (agree (location (label_of g a)) o) → a < length g.events
access_among g a o h = elim (cases_lt a (length g.events)) [
  | inl l ↦ l
  | inr l ↦ absurd (subst T (agree_none o) (subst (λ p. T (agree p o)) (location_past g a l) h))
]

pub fence_among : (g : Content) (a : ℕ) → T (strong_fence (label_of g a)) → a < length g.events
fence_among g a h = elim (cases_lt a (length g.events)) [
  | inl l ↦ l
  | inr l ↦ absurd (subst (λ e. T (strong_fence e.label)) (get_or-eq_default g.events no_event l) h)
]

-- what is made of a label that is looked up
pub of_label : {A : Type 0} (f : Label → A) (g : Content) (a : ℕ) (o : Option Label) (r : A) → o ≡ cond (ltb a (length g.events)) (Some (label_of g a)) None
    → ((l : Label) → o ≡ Some l → r ≡ f l) → (o ≡ None → r ≡ f no_event.label) → r ≡ f (label_of g a)
of_label f g a o r e some none = elim (cases_lt a (length g.events)) [
  | inl k ↦ some (label_of g a) (e ∙ ap (λ b. cond b (Some (label_of g a)) None) (lt-ltb a (length g.events) k))
  | inr k ↦ none (e ∙ ap (λ b. cond b (Some (label_of g a)) None) (le-ltb a (length g.events) k)) ∙ sym (ap (λ e. f e.label) (get_or-eq_default g.events no_event k))
]

-- the accesses of one location with an event, which accesses it or none
pub one_location_row : (g : Content) (a y l : ℕ) → Some l ≡ location (label_of g a) → agree (location (label_of g y)) (Some l) ≡ same_location g a y
one_location_row g a y l e = ap (λ o. agree (location (label_of g y)) o) e ∙ agree_turned (location (label_of g y)) (location (label_of g a))

none_under : (p : Bool) → (p && false) ≡ false
none_under p = grind arith

pub no_location_row : (g : Content) (a y : ℕ) (p : Bool) → None ≡ location (label_of g a) → (p && same_location g a y) ≡ false
no_location_row g a y p e = ap (λ o. p && agree o (location (label_of g y))) (sym e) ∙ ap (λ q. p && q) (agree_none (location (label_of g y))) ∙ none_under p

-- what a read with a source is read before, and one with none
turned : (a y : ℕ) (m : Bool) → (not (eqb y a) && m) ≡ (not (eqb a y) && m)
turned a y m = grind (arith, nat_tests)

pub overwriting : (g : Content) (w a y : ℕ) → source_of g a ≡ Some w → (not (eqb y a) && mo g w y) ≡ rb g a y
overwriting g w a y e = turned a y (mo g w y) ∙ ap (λ o. not (eqb a y) && overwrites g o y) (sym e)

pub overwrites_none : (g : Content) (a y : ℕ) → source_of g a ≡ None → rb g a y ≡ false
overwrites_none g a y e = ap (λ o. not (eqb a y) && overwrites g o y) e ∙ none_under (not (eqb a y))
