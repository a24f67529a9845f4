-- The events that a row reaches, and a table that is closed from its highest row down.
use Rattle.std.proofs.Common.{◌≡◌, ℕ, ◌-◌, ◌<◌, ◌≤◌, Bool, true, false, not, ◌&&◌, ◌||◌, T, eqb, ◌⊎◌, Decides, sym, refl, subst, inl, inr, arith}
use Rattle.std.proofs.lemmas.Bool.{cases_eq, cases_lt}
use Rattle.std.proofs.lemmas.Bool.Decides.{nat_tests}
use Rattle.cycles.specs.Steps.{Plus, last, step, ClosedAbove}
use Rattle.cycles.proofs.Tests.{passed, is_true}
use Rattle.cycles.proofs.Walks.{plus_more, plus_trans}
use Rattle.cycles.proofs.Repeats.{count, count_less}

-- how many events are not reached, or still ahead
unfoldable pub unfinished : (ℕ → Bool) → (ℕ → Bool) → ℕ
unfinished reached ahead = count 256 (λ x. not (reached x) || ahead x)

pub unfinished_less : (reached ahead after left : ℕ → Bool) (m : ℕ) → m < 256 → T (ahead m) → T (after m) → (T (left m) → ⊥)
    → ((x : ℕ) → T (reached x) → T (after x)) → ((x : ℕ) → T (reached x) → T (left x) → T (ahead x)) → unfinished after left < unfinished reached ahead
unfolding unfinished
unfinished_less reached ahead after left m low there here gone more less =
    count_less 256 (λ x. not (after x) || left x) (λ x. not (reached x) || ahead x)
    (λ x l h. let a = more x in let b = less x in grind arith) m low (grind arith) (λ h. grind arith)

module _ (r : ℕ → ℕ → Bool) (a : ℕ) where
  -- what is reached is reached by steps, and each such event is still ahead or all that it leads to is reached
  pub record Reaches (reached ahead : ℕ → Bool) : Type 0 where
    pub sound : (y : ℕ) → T (reached y) → Plus r a y
    pub starts : (y : ℕ) → T (r a y) → T (reached y)
    pub known : (x : ℕ) → T (ahead x) → T (reached x)
    pub leads : (x y : ℕ) → T (reached x) → T (r x y) → T (ahead x) ⊎ T (reached y)

  pub reaches_none : (s : ℕ → Bool) → ((y : ℕ) → s y ≡ r a y) → Reaches s s
  reaches_none s row = record {
    sound = λ y h. last (subst T (row y) h);
    starts = λ y h. subst T (sym (row y)) h;
    known = λ x h. h;
    leads = λ x y h k. inl h;
  }

  pub reaches_all : (reached ahead : ℕ → Bool) → Reaches reached ahead → ((x : ℕ) → ahead x ≡ false) → (y : ℕ) → Decides (reached y) (Plus r a y)
  reaches_all reached ahead f none y = (λ h. f.sound y (passed (reached y) h), λ p. is_true (reached y) (from_start p))
    where
      on : {x z : ℕ} → T (reached x) → Plus r x z → T (reached z)
      on {x} {z} h (last k) = let gone = none x in let next = f.leads x z h k in grind arith
      on {x} h (step {m = m} k p) = let gone = none x in let next = f.leads x m h k in on (let there : T (reached m) = grind arith in there) p

      from_start : {z : ℕ} → Plus r a z → T (reached z)
      from_start {z} (last k) = f.starts z k
      from_start (step {m = m} k p) = on (f.starts m k) p

  -- m is the next event ahead, and rest are the others
  module _ (reached ahead rest row : ℕ → Bool) (m : ℕ) (f : Reaches reached ahead) (there : T (ahead m))
      (others : (x : ℕ) → rest x ≡ (not (eqb x m) && ahead x)) (seconds : (y : ℕ) → row y ≡ r m y) where
    -- what m leads to is reached too
    reached_on : (y : ℕ) → T (row y) → Plus r a y
    reached_on y h = plus_more r (f.sound m (f.known m there)) (subst T (seconds y) h)

    -- all that the row of m leads to is in that row
    reaches_closed : ((x y : ℕ) → T (r m x) → T (r x y) → T (r m y)) → (after left : ℕ → Bool)
        → ((y : ℕ) → after y ≡ (reached y || row y)) → ((x : ℕ) → left x ≡ (rest x && not (row x))) → Reaches after left
    reaches_closed closed after left joined kept = record {
      sound = λ y h. elim (which y h) [ inl k ↦ f.sound y k | inr k ↦ reached_on y k ];
      starts = λ y h. let at = joined y in let was = f.starts y h in grind arith;
      known = λ x h. let at = kept x in let o = others x in let was = f.known x in let j = joined x in grind arith;
      leads = λ x y h k. elim (which x h) [
        | inr own ↦
            let further = closed x y (subst T (seconds x) own) k in
            let at = joined y in
            let s = seconds y in
            inr (grind arith)
        | inl old ↦ elim (cases_eq x m) [
          | inl e ↦
              let pair = subst (λ z. T (r z y)) e k in
              let at = joined y in
              let s = seconds y in
              inr (grind arith)
          | inr n ↦
              let next = f.leads x y old k in
              let o = others x in
              let l = kept x in
              let at = joined y in
              let further = closed x y in
              let s = seconds x in
              let t = seconds y in
              grind (arith, nat_tests)
        ]
      ];
    }
      where
        which : (y : ℕ) → T (after y) → T (reached y) ⊎ T (row y)
        which y h = let at = joined y in grind arith

    closed_less : m < 256 → (after left : ℕ → Bool) → ((y : ℕ) → after y ≡ (reached y || row y)) → ((x : ℕ) → left x ≡ (rest x && not (row x)))
        → unfinished after left < unfinished reached ahead
    closed_less low after left joined kept = unfinished_less reached ahead after left m low there
        (let at = joined m in let was = f.known m there in grind arith)
        (λ h. let at = kept m in let o = others m in grind (arith, nat_tests))
        (λ x h. let at = joined x in grind arith)
        (λ x h k. let at = kept x in let o = others x in grind arith)

    pub step_closed : ((x y : ℕ) → T (r m x) → T (r x y) → T (r m y)) → m < 256 → (after left : ℕ → Bool)
        → ((y : ℕ) → after y ≡ (reached y || row y)) → ((x : ℕ) → left x ≡ (rest x && not (row x)))
        → Reaches after left × (unfinished after left < unfinished reached ahead)
    step_closed closed low after left joined kept = (reaches_closed closed after left joined kept, closed_less low after left joined kept)

    -- what is new in the row of m is ahead
    reaches_open : (new after left : ℕ → Bool) → ((x : ℕ) → new x ≡ (row x && not (reached x)))
        → ((y : ℕ) → after y ≡ (reached y || new y)) → ((x : ℕ) → left x ≡ (rest x || new x)) → Reaches after left
    reaches_open new after left fresh joined more = record {
      sound = λ y h. elim (which y h) [ inl k ↦ f.sound y k | inr k ↦ reached_on y k ];
      starts = λ y h. let at = joined y in let was = f.starts y h in grind arith;
      known = λ x h. let at = more x in let o = others x in let was = f.known x in let j = joined x in grind arith;
      leads = λ x y h k. elim (cases_eq x m) [
        | inl e ↦
            let pair = subst (λ z. T (r z y)) e k in
            let at = joined y in
            let n = fresh y in
            let s = seconds y in
            inr (grind arith)
        | inr n ↦
            let next = λ (q : T (reached x)). f.leads x y q k in
            let o = others x in
            let l = more x in
            let here = joined x in
            let at = joined y in
            grind (arith, nat_tests)
      ];
    }
      where
        which : (y : ℕ) → T (after y) → T (reached y) ⊎ T (row y)
        which y h = let at = joined y in let n = fresh y in grind arith

    open_less : m < 256 → (new after left : ℕ → Bool) → ((x : ℕ) → new x ≡ (row x && not (reached x)))
        → ((y : ℕ) → after y ≡ (reached y || new y)) → ((x : ℕ) → left x ≡ (rest x || new x)) → unfinished after left < unfinished reached ahead
    open_less low new after left fresh joined more = unfinished_less reached ahead after left m low there
        (let at = joined m in let was = f.known m there in grind arith)
        (λ h. let at = more m in let o = others m in let n = fresh m in let was = f.known m there in grind (arith, nat_tests))
        (λ x h. let at = joined x in grind arith)
        (λ x h k. let at = more x in let o = others x in let n = fresh x in grind arith)

    pub step_open : m < 256 → (new after left : ℕ → Bool) → ((x : ℕ) → new x ≡ (row x && not (reached x)))
        → ((y : ℕ) → after y ≡ (reached y || new y)) → ((x : ℕ) → left x ≡ (rest x || new x))
        → Reaches after left × (unfinished after left < unfinished reached ahead)
    step_open low new after left fresh joined more = (reaches_open new after left fresh joined more, open_less low new after left fresh joined more)

-- a table that is closed from row a up, and has the pairs of r below
pub record ClosedFrom (r : ℕ → ℕ → Bool) (a : ℕ) (s : ℕ → ℕ → Bool) : Type 0 where
  pub closed : (x y : ℕ) → a ≤ x → Decides (s x y) (Plus r x y)
  pub same : (x y : ℕ) → x < a → s x y ≡ r x y

module _ (r s : ℕ → ℕ → Bool) (a : ℕ) (f : ClosedFrom r a s) where
  -- a step of s is one or more of r, and the other way
  step_back : (x y : ℕ) → T (s x y) → Plus r x y
  step_back x y h = elim (cases_lt x a) [
    | inl l ↦ last (subst T (f.same x y l) h)
    | inr l ↦ (f.closed x y l).0 (is_true (s x y) h)
  ]

  plus_back : {x y : ℕ} → Plus s x y → Plus r x y
  plus_back {x} {y} (last h) = step_back x y h
  plus_back {x} (step {m = m} h p) = plus_trans r (step_back x m h) (plus_back p)

  step_on : (x y : ℕ) → T (r x y) → T (s x y)
  step_on x y h = elim (cases_lt x a) [
    | inl l ↦ subst T (sym (f.same x y l)) h
    | inr l ↦ passed (s x y) ((f.closed x y l).1 (last h))
  ]

  plus_on : {x y : ℕ} → Plus r x y → Plus s x y
  plus_on {x} {y} (last h) = last (step_on x y h)
  plus_on {x} (step {m = m} h p) = step (step_on x m h) (plus_on p)

  pub closed_above : 0 < a → ClosedAbove s (a - 1)
  closed_above above m x y l h k = passed (s m y) ((f.closed m y (omega arith)).1 (plus_trans r (step_back m x h) (step_back x y k)))

  pub closed_more : 0 < a → (row : ℕ → Bool) → ((y : ℕ) → Decides (row y) (Plus s (a - 1) y)) → (t : ℕ → ℕ → Bool)
      → ((x y : ℕ) → t x y ≡ (s x y || (eqb x (a - 1) && row y))) → ClosedFrom r (a - 1) t
  closed_more above row reached t joined = record {
    closed = λ x y l. elim (cases_eq x (a - 1)) [
      | inl e ↦ subst (λ z. Decides (t z y) (Plus r z y)) (sym e) (own y)
      | inr n ↦
          let old = f.closed x y (omega arith) in
          let at = joined x y in (
            λ h. old.0 (let was : s x y ≡ true = grind (arith, nat_tests) in was),
            λ p. let was = old.1 p in grind (arith, nat_tests),
          )
    ];
    same = λ x y l. let old = f.same x y (omega arith) in let at = joined x y in grind (arith, nat_tests);
  }
    where
      own : (y : ℕ) → Decides (t (a - 1) y) (Plus r (a - 1) y)
      own y =
          let at = joined (a - 1) y in
          let old = step_back (a - 1) y in (
            λ h. elim (which h) [ inl k ↦ old k | inr k ↦ plus_back ((reached y).0 (is_true (row y) k)) ],
            λ p. let new = (reached y).1 (plus_on p) in grind (arith, nat_tests),
          )
        where
          which : t (a - 1) y ≡ true → T (s (a - 1) y) ⊎ T (row y)
          which h = let at = joined (a - 1) y in grind (arith, nat_tests)

pub closed_none : (r : ℕ → ℕ → Bool) (n : ℕ) → ((x y : ℕ) → T (r x y) → x < n) → ClosedFrom r n r
closed_none r n inside = record {
  closed = λ x y l. (λ h. last (passed (r x y) h), λ p. absurd (none l p));
  same = λ x y l. refl;
}
  where
    none : {x y : ℕ} → n ≤ x → Plus r x y → ⊥
    none {x} {y} l (last h) = omega (arith, inside x y h)
    none {x} l (step {m = m} h p) = omega (arith, inside x m h)
