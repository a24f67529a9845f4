-- The order of each location begins with its initial write, which tells the orders apart where they stand in a row.
use Rattle.std.proofs.Common.{◌≡◌, ℕ, suc, ◌+◌, ◌<◌, ◌≤◌, Bool, true, false, cond, T, eqb, ltb, List, [], ◌∷◌, ◌++◌, length, get_or, Some, Option, sym, refl, ap, ◌∙◌, subst, inl, inr, add-zero, arith, eqb→eq}
use Rattle.std.specs.List.{AllByRecursion}
use Rattle.std.proofs.lemmas.List.{append_assoc, length-map, get_or-map}
use Rattle.std.proofs.lemmas.Bool.{cases_eq, cases_lt, lt-ltb, le-ltb}
use Rattle.event.specs.declared.event.Event.{Event}
use Rattle.event.specs.Labels.{agree, location}
use Rattle.execution.specs.Lists.{holds, precedes, distinct, upto}
use Rattle.execution.specs.Content.{Content, label_of, same_location}
use Rattle.execution.specs.Sound.{Sound}
use Rattle.execution.proofs.Tests.{both, left, either, yes_no, same}
use Rattle.execution.proofs.Lists.{kept_holds, kept_passes, kept_distinct, upto_length, upto_at}
use Rattle.verdict.specs.Shown.{modification_order, modification_orders}
use Rattle.verdict.specs.Answers.{joined}
use Rattle.verdict.proofs.Lists.{or_left, or_right, holds_kept, precedes_kept, precedes_one_way}
use Rattle.report.specs.Pages.{report_line}
use Rattle.report.specs.Reports.{lines_from, lists_from}
use Rattle.report.specs.Flat.{orders_from}

-- what holds of all that stand in a list
pub all_held : (P : ℕ → Type 0) (xs : List ℕ) → ((a : ℕ) → T (holds xs a) → P a) → AllByRecursion P xs
all_held P [] f = tt
all_held P (x ∷ xs) f = (f x (or_left (eqb x x) (holds xs x) (same x x refl)), all_held P xs (λ a k. f a (or_right (eqb x a) (holds xs a) k)))

-- an order that begins with the initial write l, and holds no other one of n
pub record Begins (n l : ℕ) (xs : List ℕ) : Type 0 where
  pub rest : List ℕ
  pub is : xs ≡ l ∷ rest
  pub recorded : AllByRecursion (λ w. n ≤ w) rest

module _ (h : Content) (s : Sound h) (l : ℕ) (below : l < h.locations) where
  at : ℕ → Bool
  at w = agree (location (label_of h w)) (Some l)

  initial_at : (w : ℕ) → w < h.locations → location (label_of h w) ≡ Some w
  initial_at w k = ap (λ (e : Event). location e.label) (s.initial_writes w k)

  agree_some : (o p : Option ℕ) → o ≡ Some l → T (agree p (Some l)) → T (agree o p)
  agree_some o p e k = grind arith

  initial_held : T (holds (modification_order h l) l)
  unfolding at
  initial_held = holds_kept at h.placed l (s.initial_placed l below) (subst (λ (o : Option ℕ). T (agree o (Some l))) (sym (initial_at l below)) (same l l refl))

  first_of_it : (x : ℕ) (ys : List ℕ) → modification_order h l ≡ x ∷ ys → x ≡ l
  unfolding at
  first_of_it x ys e = elim (cases_eq x l) [
    | inl is ↦ is
    | inr other ↦
        let held : T (holds (modification_order h l) x) = subst (λ (zs : List ℕ). T (holds zs x)) (sym e) (or_left (eqb x x) (holds ys x) (same x x refl)) in
        let passes = kept_passes at h.placed x held in
        let there : T (same_location h l x) = agree_some (location (label_of h l)) (location (label_of h x)) (initial_at l below) passes in
        let before = s.initial_first l x below (kept_holds at h.placed x held) there (λ q. other (sym q)) in
        let mine = kept_passes at h.placed l initial_held in
        let one : T (precedes (modification_order h l) l x) = precedes_kept at h.placed l x before mine passes in
        let later : T (holds ys l) = elim (either (eqb x l) (holds ys l) (subst (λ (zs : List ℕ). T (holds zs l)) e initial_held)) [
          | inl q ↦ absurd (other (eqb→eq x l q))
          | inr q ↦ q
        ] in
        let back : T (precedes (modification_order h l) x l) = subst (λ (zs : List ℕ). T (precedes zs x l)) (sym e) (or_left _ (precedes ys x l) (both (eqb x x) (holds ys l) (same x x refl) later)) in
        absurd (precedes_one_way (modification_order h l) l x (kept_distinct at h.placed s.placed_once) one back)
  ]

  others_recorded : (ys : List ℕ) → modification_order h l ≡ l ∷ ys → (w : ℕ) → T (holds ys w) → h.locations ≤ w
  unfolding at
  others_recorded ys e w k = elim (cases_lt w h.locations) [
    | inr late ↦ late
    | inl early ↦
        let passes = kept_passes at h.placed w (subst (λ (zs : List ℕ). T (holds zs w)) (sym e) (or_right (eqb l w) (holds ys w) k)) in
        let is : w ≡ l = eqb→eq w l (subst (λ (o : Option ℕ). T (agree o (Some l))) (initial_at w early) passes) in
        let once = subst (λ (zs : List ℕ). T (distinct zs)) e (kept_distinct at h.placed s.placed_once) in
        absurd (yes_no (holds ys l) (left _ (distinct ys) once) (subst (λ v. T (holds ys v)) is k))
  ]

  pub order_begins : Begins h.locations l (modification_order h l)
  order_begins = by (modification_order h l) refl
    where
      by : (xs : List ℕ) → modification_order h l ≡ xs → Begins h.locations l (modification_order h l)
      by [] e = absurd (subst (λ (zs : List ℕ). T (holds zs l)) e initial_held)
      by (x ∷ ys) e =
          let is = e ∙ ap (λ v. v ∷ ys) (first_of_it x ys e) in
          record { rest = ys; is = is; recorded = all_held (λ w. h.locations ≤ w) ys (others_recorded ys is) }

module _ (n : ℕ) where
  -- a write that is not initial goes on with the order at hand
  on : (b : Bool) (x l i : ℕ) (xs : List ℕ) → b ≡ false
      → report_line 77 (cond b x l) (cond b 0 i) x ++ orders_from n (cond b x l) (suc (cond b 0 i)) xs ≡ report_line 77 l i x ++ orders_from n l (suc i) xs
  on true x l i xs e = cc
  on false x l i xs e = refl

  -- an initial one begins another
  anew : (b : Bool) (x l i : ℕ) (xs : List ℕ) → b ≡ true
      → report_line 77 (cond b x l) (cond b 0 i) x ++ orders_from n (cond b x l) (suc (cond b 0 i)) xs ≡ report_line 77 x 0 x ++ orders_from n x 1 xs
  anew true x l i xs e = refl
  anew false x l i xs e = cc

  through : (ys : List ℕ) (l i : ℕ) (rest text : List ℕ) → AllByRecursion (λ w. n ≤ w) ys → ((k j : ℕ) → orders_from n k j rest ≡ text)
      → orders_from n l i (ys ++ rest) ≡ lines_from 77 l i ys ++ text
  unfolding orders_from lines_from
  through [] l i rest text late f = f l i
  through (y ∷ ys) l i rest text late f =
      on (ltb y n) y l i (ys ++ rest) (le-ltb y n late.0)
      ∙ ap (λ (zs : List ℕ). report_line 77 l i y ++ zs) (through ys l (suc i) rest text late.1 f)
      ∙ sym (append_assoc (report_line 77 l i y) (lines_from 77 l (suc i) ys) text)

  -- orders in a row are told apart
  pub orders_apart : (xss : List (List ℕ)) (k : ℕ) → k + length xss ≤ n → ((j : ℕ) → j < length xss → Begins n (k + j) (get_or xss j []))
      → (l i : ℕ) → orders_from n l i (joined xss) ≡ lists_from 77 k xss
  unfolding orders_from lists_from lines_from
  orders_apart [] k few each l i = refl
  orders_apart (xs ∷ xss) k few each l i =
      let first = subst (λ v. Begins n v xs) (add-zero k) (each 0 (omega arith)) in
      let rest = orders_apart xss (suc k) (omega arith) (λ j b. subst (λ v. Begins n v (get_or xss j [])) (let e : k + suc j ≡ suc k + j = omega arith in e) (each (suc j) (omega arith))) in
      ap (λ (zs : List ℕ). orders_from n l i (zs ++ joined xss)) first.is
      ∙ anew (ltb k n) k l i (first.rest ++ joined xss) (lt-ltb k n (omega arith))
      ∙ ap (λ (zs : List ℕ). report_line 77 k 0 k ++ zs) (through first.rest k 1 (joined xss) (lists_from 77 (suc k) xss) first.recorded rest)
      ∙ sym (append_assoc (report_line 77 k 0 k) (lines_from 77 k 1 first.rest) (lists_from 77 (suc k) xss))
      ∙ ap (λ (zs : List ℕ). lines_from 77 k 0 zs ++ lists_from 77 (suc k) xss) (sym first.is)

-- the modification orders of a graph, location by location
pub orders_told : (h : Content) → Sound h → (l i : ℕ) → orders_from h.locations l i (joined (modification_orders h)) ≡ lists_from 77 0 (modification_orders h)
orders_told h s l i =
    let n = h.locations in
    let many : length (modification_orders h) ≡ n = length-map (upto n) (modification_order h) ∙ upto_length n in
    orders_apart n (modification_orders h) 0 (omega arith) (λ j b.
    let small : j < n = omega arith in
    let at-it : get_or (modification_orders h) j [] ≡ modification_order h j =
    get_or-map (modification_order h) (upto n) j 0 [] (omega (arith, upto_length n)) ∙ ap (modification_order h) (upto_at n j small) in
    let shifted : 0 + j ≡ j = omega arith in
    subst (λ v. Begins n v (get_or (modification_orders h) j [])) (sym shifted) (subst (λ (xs : List ℕ). Begins n j xs) (sym at-it) (order_begins h s j small))) l i
