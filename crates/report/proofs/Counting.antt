-- The writes of a graph are those placed and those open; the modification orders hold those placed.
use Rattle.std.proofs.Common.{◌≡◌, ℕ, zero, suc, ◌+◌, ◌<◌, ◌≤◌, Bool, true, false, cond, not, ◌&&◌, ◌||◌, T, eqb, ltb, List, [], ◌∷◌, length, get_or, Some, None, filter, Option, sym, refl, ap, ◌∙◌, subst, inl, inr, add-one, arith}
use Rattle.std.specs.List.{count_by}
use Rattle.std.proofs.lemmas.List.{length-append}
use Rattle.std.proofs.lemmas.List.Recursion.{is_count_by}
use Rattle.std.proofs.lemmas.Bool.{cases_eq, cases_lt, lt-ltb, le-ltb}
use Rattle.std.proofs.lemmas.Bool.Decides.{nat_tests}
use Rattle.event.specs.declared.event.Event.{Event}
use Rattle.event.specs.declared.event.Label.{Label}
use Rattle.event.specs.declared.event.Label.TheVariants.{Read, Write, Update, Fence}
use Rattle.event.specs.Labels.{no_event, is_write, agree, location}
use Rattle.execution.specs.Lists.{holds, distinct}
use Rattle.execution.specs.Content.{Content, label_of, is_open}
use Rattle.execution.specs.Sound.{Sound}
use Rattle.execution.proofs.Tests.{left, right, yes_no, truth, same}
use Rattle.execution.proofs.Among.{write_among}
use Rattle.verdict.specs.Numbers.{count}
use Rattle.verdict.specs.Completions.{Completion}
use Rattle.verdict.specs.Shown.{modification_order, modification_orders}
use Rattle.verdict.specs.Answers.{joined}
use Rattle.verdict.proofs.Lists.{or_left, or_right}
use Rattle.verdict.proofs.Counting.{count_same}
use Rattle.judge.proofs.Counts.{count_none}
use Rattle.judge.proofs.Lists.{first_of, first_more}
use Rattle.report.specs.Reports.{writes, open_writes}

-- the first number, and then the others
count_from : (n : ℕ) (p : ℕ → Bool) → count (suc n) p ≡ cond (p 0) 1 0 + count n (λ k. p (suc k))
count_from zero p = refl
count_from (suc n) p = omega (arith, count_from n p)

-- the writes, counted event by event
pub writes_counted : (es : List Event) → count (length es) (λ w. is_write (get_or es w no_event).label) ≡ count_by (λ (e : Event). is_write e.label) es
writes_counted =
    is_count_by (λ (es : List Event). count (length es) (λ w. is_write (get_or es w no_event).label)) (λ (e : Event). is_write e.label) refl
    (λ e es. count_from (length es) (λ w. is_write (get_or (e ∷ es) w no_event).label) ∙ one_more (is_write e.label) _)
  where
    one_more : (b : Bool) (n : ℕ) → cond b 1 0 + n ≡ cond b (1 + n) n
    one_more true n = refl
    one_more false n = omega arith

-- one more number counted
count_more : (n x : ℕ) (p : ℕ → Bool) → x < n → (T (p x) → ⊥) → count n (λ y. eqb x y || p y) ≡ suc (count n p)
count_more zero x p l new = absurd (omega arith)
count_more (suc n) x p l new = elim (cases_eq x n) [
  | inl e ↦
      let rest = count_same n (λ y. eqb x y || p y) p (λ c k h. grind (arith, nat_tests)) (λ c k h. grind (arith, nat_tests)) in
      let none = subst (λ y. T (p y) → ⊥) e new in
      grind (arith, nat_tests)
  | inr k ↦
      let ih = count_more n x p (omega arith) new in
      grind (arith, nat_tests)
]

pub count_few : (n : ℕ) (p : ℕ → Bool) → count n p ≤ n
count_few zero p = omega arith
count_few (suc n) p = let ih = count_few n p in grind arith

count_nothing : (n : ℕ) → count n (λ _. false) ≡ 0
count_nothing zero = refl
count_nothing (suc n) = let ih = count_nothing n in omega arith

-- a list without repeats has as many numbers as stand in it
count_held : (n : ℕ) (xs : List ℕ) → T (distinct xs) → ((a : ℕ) → T (holds xs a) → a < n) → count n (holds xs) ≡ length xs
count_held n [] d f = count_nothing n
count_held n (x ∷ xs) d f =
    let ih = count_held n xs (right (not (holds xs x)) _ d) (λ a k. f a (or_right (eqb x a) (holds xs a) k)) in
    let more = count_more n x (holds xs) (f x (or_left (eqb x x) (holds xs x) (same x x refl))) (yes_no (holds xs x) (left (not (holds xs x)) _ d)) in
    omega arith

one_or_other : (x y : Bool) → (T y → T x) → cond x 1 0 ≡ cond y 1 0 + cond (x && not y) 1 0
one_or_other true true f = refl
one_or_other true false f = refl
one_or_other false true f = absurd (f tt)
one_or_other false false f = refl

count_parts : (n : ℕ) (p q r : ℕ → Bool) → ((c : ℕ) → cond (p c) 1 0 ≡ cond (q c) 1 0 + cond (r c) 1 0) → count n p ≡ count n q + count n r
count_parts zero p q r f = refl
count_parts (suc n) p q r f = omega (arith, count_parts n p q r f, f n)

pub writes_few : (g : Content) → Sound g → writes g ≤ 256
writes_few g s = omega (arith, count_few (length g.events) (λ w. is_write (label_of g w)), s.few_events)

-- every write is placed or open
pub placed_and_open : (g : Content) → Sound g → length g.placed + open_writes g ≡ writes g
placed_and_open g s =
    let n = length g.events in
    let all = count_parts n (λ w. is_write (label_of g w)) (holds g.placed) (is_open g) (λ c. one_or_other (is_write (label_of g c)) (holds g.placed c) (s.placed_writes c)) in
    let held = count_held n g.placed s.placed_once (λ a k. write_among g a (s.placed_writes a k)) in
    omega arith

-- the location of an access is below k
below : ℕ → Option ℕ → Bool
below k None = false
below k (Some l) = ltb l k

below_more : (k : ℕ) (o : Option ℕ) → cond (below (suc k) o) 1 0 ≡ cond (below k o) 1 0 + cond (agree o (Some k)) 1 0
unfolding below
below_more k None = refl
below_more k (Some l) = grind (arith, nat_tests)

kept_one : (b : Bool) (x : ℕ) (ys : List ℕ) → length (cond b (x ∷ ys) ys) ≡ cond b 1 0 + length ys
kept_one true x ys = omega arith
kept_one false x ys = omega arith

kept_parts : (p q r : ℕ → Bool) → ((x : ℕ) → cond (p x) 1 0 ≡ cond (q x) 1 0 + cond (r x) 1 0) → (xs : List ℕ) → length (filter p xs) ≡ length (filter q xs) + length (filter r xs)
kept_parts p q r f [] = refl
kept_parts p q r f (x ∷ xs) =
    omega (arith, kept_parts p q r f xs, f x, kept_one (p x) x (filter p xs), kept_one (q x) x (filter q xs), kept_one (r x) x (filter r xs))

kept_none : (p : ℕ → Bool) (xs : List ℕ) → ((x : ℕ) → p x ≡ false) → length (filter p xs) ≡ 0
kept_none p [] f = refl
kept_none p (x ∷ xs) f = let ih = kept_none p xs f in let here = f x in grind (arith, nat_tests)

kept_all : (p : ℕ → Bool) (xs : List ℕ) → ((a : ℕ) → T (holds xs a) → T (p a)) → length (filter p xs) ≡ length xs
kept_all p [] f = refl
kept_all p (x ∷ xs) f =
    let ih = kept_all p xs (λ a k. f a (or_right (eqb x a) (holds xs a) k)) in
    let here = f x (or_left (eqb x x) (holds xs x) (same x x refl)) in
    grind (arith, nat_tests)

module _ (h : Content) where
  site : ℕ → Option ℕ
  site w = location (label_of h w)

  below_none : (o : Option ℕ) → below 0 o ≡ false
  unfolding below
  below_none None = refl
  below_none (Some l) = le-ltb l 0 (omega arith)

  -- the orders of the first locations hold the placed writes to them
  orders_so_far : (k : ℕ) → length (first_of (modification_order h) k) ≡ length (filter (λ w. below k (site w)) h.placed)
  unfolding site
  orders_so_far zero = sym (kept_none (λ w. below 0 (site w)) h.placed (λ x. below_none (site x)))
  orders_so_far (suc k) =
      let more = ap (λ (n : ℕ). length (first_of (modification_order h) n)) (sym (add-one k)) ∙ ap length (first_more (modification_order h) k) in
      let split = kept_parts (λ w. below (suc k) (site w)) (λ w. below k (site w)) (λ w. agree (site w) (Some k)) (λ x. below_more k (site x)) h.placed in
      omega (arith, orders_so_far k, length-append (first_of (modification_order h) k) (modification_order h k))

  write_site : (lab : Label) (n : ℕ) → T (is_write lab) → ((l : ℕ) → location lab ≡ Some l → l < n) → T (below n (location lab))
  unfolding below
  write_site (Read l v m) n w f = absurd w
  write_site (Write l v m) n w f = truth (ltb l n) (lt-ltb l n (f l refl))
  write_site (Update l b a m) n w f = truth (ltb l n) (lt-ltb l n (f l refl))
  write_site (Fence m) n w f = absurd w

  module _ (s : Sound h) where
    placed_below : (w : ℕ) → T (holds h.placed w) → T (below h.locations (site w))
    unfolding site below
    placed_below w k =
        let writes = s.placed_writes w k in
        elim (cases_lt w h.locations) [
          | inl l ↦ subst (λ (e : Event). T (below h.locations (location e.label))) (sym (s.initial_writes w l)) (truth (ltb w h.locations) (lt-ltb w h.locations l))
          | inr l ↦ write_site (label_of h w) h.locations writes (s.recorded w l (write_among h w writes)).its_location
        ]

    -- and those of all locations hold every placed write
    pub orders_hold_all : length (joined (modification_orders h)) ≡ length h.placed
    orders_hold_all = orders_so_far h.locations ∙ kept_all (λ w. below h.locations (site w)) h.placed placed_below

-- so those of a full modification order are as long as the graph has writes
pub orders_of_all_writes : (g h : Content) → Completion g h → length (joined (modification_orders h)) ≡ writes g
orders_of_all_writes g h c =
    let none = count_none (length h.events) (is_open h) (λ a l o. yes_no (holds h.placed a) (right (is_write (label_of h a)) _ o) (c.full a (left (is_write (label_of h a)) _ o))) in
    let same_writes = ap (λ (es : List Event). count (length es) (λ w. is_write (get_or es w no_event).label)) c.events in
    omega (arith, orders_hold_all h c.sound, placed_and_open h c.sound)
