-- Sweeps from the last to the first: each joins what stands behind it, in its thread or at its location.
use Rattle.std.proofs.Common.{◌≡◌, ℕ, ◌+◌, ◌<◌, Bool, false, ◌&&◌, ◌||◌, eqb, ltb, leb, List, [], ◌∷◌, ◌++◌, length, Some, None, sym, ap, ◌∙◌, arith, append_assoc, length-append, get_or}
use Rattle.std.proofs.Math.Seq.{get_or-append_seam}
use Rattle.std.proofs.lemmas.Bool.Decides.{nat_tests}
use Rattle.event.specs.Labels.{agree, location}
use Rattle.execution.specs.Lists.{holds as stands, precedes}
use Rattle.execution.specs.Content.{Content, thread_of, label_of, same_location}
use Rattle.relation.specs.declared.table.Relation.{Relation}
use Rattle.relation.specs.Table.{holds, Is}
use Rattle.model.specs.Orders.{thread_order}
use Rattle.model.proofs.Places.{agree_turned, agree_none}

-- the events from i on are joined, and stand in later by their threads
abbrev pub ThreadsFrom : Content → Relation → ℕ → Relation → Relation → Type 0
ThreadsFrom g entry i t later =
    Is t (λ x y. (leb i x && thread_order g x y) || holds entry x y)
    × Is later (λ s y. leb i y && (ltb y (length g.events) && eqb (thread_of g y) s))

-- an event a of thread s
joins_thread : (n i a s x y tx ty : ℕ) (old row new entry : Bool) → i ≡ a + 1 → (x ≡ a → tx ≡ s)
    → old ≡ ((leb i x && (ltb y n && (eqb tx ty && ltb x y))) || entry)
    → row ≡ (leb i y && (ltb y n && eqb ty s))
    → new ≡ (old || (eqb x a && row))
    → new ≡ ((leb a x && (ltb y n && (eqb tx ty && ltb x y))) || entry)
joins_thread n i a s x y tx ty old row new entry next its was behind added = grind (arith, nat_tests)

stands_in_thread : (n i a s t y ty : ℕ) (old new : Bool) → i ≡ a + 1 → a < n → (y ≡ a → ty ≡ s)
    → old ≡ (leb i y && (ltb y n && eqb ty t))
    → new ≡ ((eqb t s && eqb y a) || old)
    → new ≡ (leb a y && (ltb y n && eqb ty t))
stands_in_thread n i a s t y ty old new next within its was added = grind (arith, nat_tests)

pub threads_none : (g : Content) (entry none : Relation) (i : ℕ) → i ≡ length g.events → Is none (λ _ _. false) → ThreadsFrom g entry i entry none
threads_none g entry none i past empty = (λ x y. grind (arith, nat_tests), λ s y. let e = empty s y in grind (arith, nat_tests))

pub thread_turn : (g : Content) (entry t later u after : Relation) (i a s : ℕ) (row : ℕ → Bool) → i ≡ a + 1 → a < length g.events
    → ThreadsFrom g entry i t later
    → ((y : ℕ) → row y ≡ holds later s y)
    → Is u (λ x y. holds t x y || (eqb x a && row y))
    → Is after (λ x y. (eqb x s && eqb y a) || holds later x y)
    → s ≡ thread_of g a
    → ThreadsFrom g entry a u after
thread_turn g entry t later u after i a s row next within was behind joined added its = (
  λ x y.
      joins_thread (length g.events) i a s x y (thread_of g x) (thread_of g y) (holds t x y) (row y) (holds u x y) (holds entry x y)
      next (λ e. ap (λ z. thread_of g z) e ∙ sym its) (was.0 x y) (behind y ∙ was.1 s y) (joined x y),
  λ x y.
      stands_in_thread (length g.events) i a s x y (thread_of g y) (holds later x y) (holds after x y)
      next within (λ e. ap (λ z. thread_of g z) e ∙ sym its) (was.1 x y) (added x y),
)

-- the writes xs are joined, and stand in later by their locations
abbrev pub Writes : Content → Relation → List ℕ → Relation → Relation → Type 0
Writes g entry xs t later =
    Is t (λ x y. (same_location g x y && precedes xs x y) || holds entry x y)
    × Is later (λ l y. stands xs y && agree (location (label_of g y)) (Some l))

joins_none : (s e : Bool) → e ≡ ((s && false) || e)
joins_none s e = grind arith

pub writes_none : (g : Content) (entry none : Relation) → Is none (λ _ _. false) → Writes g entry [] entry none
writes_none g entry none empty = (λ x y. joins_none (same_location g x y) (holds entry x y), empty)

-- a write w
joins_location : (w x : ℕ) (there before behind here old row new entry : Bool) → (x ≡ w → there ≡ here)
    → old ≡ ((there && before) || entry)
    → row ≡ (behind && here)
    → new ≡ (old || (eqb x w && row))
    → new ≡ ((there && ((eqb w x && behind) || before)) || entry)
joins_location w x there before behind here old row new entry its was stood added = grind (arith, nat_tests)

stands_at_location : (w l m y : ℕ) (behind there old new : Bool) → (y ≡ w → there ≡ eqb l m)
    → old ≡ (behind && there)
    → new ≡ ((eqb m l && eqb y w) || old)
    → new ≡ ((eqb w y || behind) && there)
stands_at_location w l m y behind there old new its was added = grind (arith, nat_tests)

joins_nothing : (w x : ℕ) (there before behind old entry : Bool) → (x ≡ w → there ≡ false)
    → old ≡ ((there && before) || entry) → old ≡ ((there && ((eqb w x && behind) || before)) || entry)
joins_nothing w x there before behind old entry its was = grind (arith, nat_tests)

stands_nowhere : (w y : ℕ) (behind there old : Bool) → (y ≡ w → there ≡ false) → old ≡ (behind && there) → old ≡ ((eqb w y || behind) && there)
stands_nowhere w y behind there old its was = grind (arith, nat_tests)

pub write_turn : (g : Content) (entry t later u after : Relation) (xs : List ℕ) (w l : ℕ) (row : ℕ → Bool)
    → Writes g entry xs t later
    → ((y : ℕ) → row y ≡ holds later l y)
    → Is u (λ x y. holds t x y || (eqb x w && row y))
    → Is after (λ x y. (eqb x l && eqb y w) || holds later x y)
    → Some l ≡ location (label_of g w)
    → Writes g entry (w ∷ xs) u after
write_turn g entry t later u after xs w l row was behind joined added its =
    let at-w = λ (y : ℕ). λ (e : y ≡ w). ap (λ z. location (label_of g z)) e ∙ sym its in (
      λ x y.
          joins_location w x (same_location g x y) (precedes xs x y) (stands xs y) (agree (location (label_of g y)) (Some l)) (holds t x y) (row y) (holds u x y) (holds entry x y)
          (λ e. ap (λ o. agree o (location (label_of g y))) (at-w x e) ∙ agree_turned (Some l) (location (label_of g y))) (was.0 x y) (behind y ∙ was.1 l y) (joined x y),
      λ x y.
          stands_at_location w l x y (stands xs y) (agree (location (label_of g y)) (Some x)) (holds later x y) (holds after x y)
          (λ e. ap (λ o. agree o (Some x)) (at-w y e)) (was.1 x y) (added x y),
    )

-- what accesses no location
pub skip_turn : (g : Content) (entry t later : Relation) (xs : List ℕ) (w : ℕ) → Writes g entry xs t later → None ≡ location (label_of g w) → Writes g entry (w ∷ xs) t later
skip_turn g entry t later xs w was its =
    let at-w = λ (y : ℕ). λ (e : y ≡ w). ap (λ z. location (label_of g z)) e ∙ sym its in (
      λ x y.
          joins_nothing w x (same_location g x y) (precedes xs x y) (stands xs y) (holds t x y) (holds entry x y)
          (λ e. ap (λ o. agree o (location (label_of g y))) (at-w x e) ∙ agree_none (location (label_of g y))) (was.0 x y),
      λ x y.
          stands_nowhere w y (stands xs y) (agree (location (label_of g y)) (Some x)) (holds later x y)
          (λ e. ap (λ o. agree o (Some x)) (at-w y e)) (was.1 x y),
    )

-- an item that is taken from the back of what is left of a list
pub taken_back : {A : Type 0} (all left rest done : List A) (x : A) → all ≡ left ++ done → left ≡ rest ++ (x ∷ []) → all ≡ rest ++ (x ∷ done)
taken_back all left rest done x e f = e ∙ ap (λ ys. ys ++ done) f ∙ append_assoc rest (x ∷ []) done

pub taken_at : {A : Type 0} (all rest done : List A) (x d : A) → all ≡ rest ++ (x ∷ done) → (length rest < length all) × (x ≡ get_or all (length rest) d)
taken_at all rest done x d e = (omega (arith, ap length e, length-append rest (x ∷ done)), sym (ap (λ ys. get_or ys (length rest) d) e ∙ get_or-append_seam rest x done d))
