-- The law over every run, and that a right dealing carries every run on.
use Rattle.std.proofs.Common.{◌≡◌, ℕ, T, ◌⊎◌, List, [], ◌∷◌, ◌++◌, length, get_or, Some, None, Option, sym, refl, ap, subst, inl, inr}
use Rattle.event.specs.declared.denial.Denial.{Denial}
use Rattle.execution.specs.Content.{Content}
use Rattle.execution.specs.Sound.{Sound, Within}
use Rattle.execution.specs.Entries.{denial}
use Rattle.execution.proofs.Steps.{within_refl, steps_keep_and_grow}
use Rattle.execution.proofs.Tests.{is_true, truth}
use Rattle.execution.proofs.Opening.{opening_sound}
use Rattle.model.specs.Meaning.{Meaning, Rules}
use Rattle.verdict.specs.Completions.{Allowed}
use Rattle.verdict.specs.States.{State, as_open}
use Rattle.verdict.specs.Denials.{judge_denial}
use Rattle.verdict.specs.Answers.{Answer, allowed, cyclic, no_placement, denied, Found, RightUnless, RightAnswer}
use Rattle.verdict.specs.Dealings.{Dealing, entry, judge, close, after, Right, state, Run, Opening}
use Rattle.verdict.specs.Law.{answers_allowed, answers_forbidden, is_denied, Law, EveryRun, Carries, CallsCarryOn}
use Rattle.verdict.proofs.Growing.{within_trans, allowed_below, cycle_forbids}
use Rattle.verdict.proofs.Reading.{reads_last}

-- every dealing keeps the graph sound and only adds to it
pub after_keeps : (s : State) → Sound s.content → (d : Dealing) → Sound (after s d).content × Within s.content (after s d).content
after_keeps s k (entry e d) = steps_keep_and_grow s.content k e
after_keeps s k (judge m n a) = (k, within_refl s.content)
after_keeps s k close = (k, within_refl s.content)

pub opened_sound : (start : State) → Opening start → Sound start.content
opened_sound start o =
    subst (λ (s : State). Sound s.content) (sym o.opened) (opening_sound o.threads o.locations o.some_thread o.few_threads o.some_location o.few_locations)

module _ (start : State) (sound : Sound start.content) where
  pub run_sound : (ds : List Dealing) → Sound (state start ds).content
  run_sound [] = sound
  run_sound (d ∷ ds) = (after_keeps (state start ds) (run_sound ds) d).0

  earlier : (later before : List Dealing) → Run start (later ++ before) → Run start before
  earlier [] before r = r
  earlier (d ∷ later) before r = earlier later before r.0

  run_within : (later before : List Dealing) → Within (state start before).content (state start (later ++ before)).content
  run_within [] before = within_refl (state start before).content
  run_within (d ∷ later) before =
      within_trans (state start before).content (state start (later ++ before)).content (state start (d ∷ (later ++ before))).content
      (run_within later before) (after_keeps (state start (later ++ before)) (run_sound (later ++ before)) d).1

-- an answer that is no denial is what is found
found : (o : Option Denial) (m : Meaning) (g : Content) (a : Answer) → RightUnless o m g a → (T (is_denied a) → ⊥) → Found m g a
found None m g a r n = r
found (Some d) m g a r n = absurd (n (subst (λ (x : Answer). T (is_denied x)) (sym r) tt))

allowed_not_denied : (a : Answer) → T (answers_allowed a) → T (is_denied a) → ⊥
allowed_not_denied (allowed lists orders) t u = u
allowed_not_denied (cyclic k xs) t u = u
allowed_not_denied no_placement t u = u
allowed_not_denied (denied d) t u = t

forbidden_not_denied : (a : Answer) → T (answers_forbidden a) → T (is_denied a) → ⊥
forbidden_not_denied (allowed lists orders) t u = u
forbidden_not_denied (cyclic k xs) t u = u
forbidden_not_denied no_placement t u = u
forbidden_not_denied (denied d) t u = t

allowed_or_forbidden : (a : Answer) → (T (is_denied a) → ⊥) → T (answers_allowed a) ⊎ T (answers_forbidden a)
allowed_or_forbidden (allowed lists orders) n = inl tt
allowed_or_forbidden (cyclic k xs) n = inr tt
allowed_or_forbidden no_placement n = inr tt
allowed_or_forbidden (denied d) n = absurd (n tt)

pub some_serves : (m : Meaning) (g : Content) (a : Answer) → Found m g a → T (answers_allowed a) → Allowed m g
some_serves m g (allowed lists orders) f t = (f.0, f.1.placed.completes, f.1.placed.serves)
some_serves m g (cyclic k xs) f t = absurd t
some_serves m g no_placement f t = absurd t
some_serves m g (denied d) f t = absurd t

pub none_serves : (m : Meaning) (g : Content) → Sound g → Rules m → (a : Answer) → Found m g a → T (answers_forbidden a) → Allowed m g → ⊥
none_serves m g s rules (allowed lists orders) f t h = t
none_serves m g s rules (cyclic k xs) f t h = cycle_forbids g m s rules k f.0 xs f.2.round h
none_serves m g s rules no_placement f t h = f.1 h
none_serves m g s rules (denied d) f t h = t

module _ (start : State) (sound : Sound start.content) (ds : List Dealing) (run : Run start ds) where
  -- the run up to a judge in it, and what that found
  right_before : (later before : List Dealing) (m : Meaning) (n : ℕ) (a : Answer) → ds ≡ later ++ (judge m n a ∷ before) → Rules m × RightAnswer m (state start before) n a
  right_before later before m n a e = (earlier start sound later (judge m n a ∷ before) (subst (Run start) e run)).1

  found_at : (later before : List Dealing) (m : Meaning) (n : ℕ) (a : Answer) → ds ≡ later ++ (judge m n a ∷ before) → (T (is_denied a) → ⊥) → Found m (state start before).content a
  found_at later before m n a e t = found (judge_denial (state start before) n) m (state start before).content a (right_before later before m n a e).1 t

  law : Law start ds
  law = record {
    exact = λ later before m n a e t.
        let g = (state start before).content in
        let f = found_at later before m n a e t in (
          λ u. some_serves m g a f (truth (answers_allowed a) u),
          λ h. elim (allowed_or_forbidden a t) [
            | inl u ↦ is_true (answers_allowed a) u
            | inr u ↦ absurd (none_serves m g (run_sound start sound before) (right_before later before m n a e).0 a f u h)
          ],
        );
    shown = λ later before m n lists orders e.
        let rules = (right_before later before m n (allowed lists orders) e).0 in
        let f = found_at later before m n (allowed lists orders) e (λ u. u) in
        reads_last m rules (state start before).content f.0 f.1.placed.completes (get_or lists 0 []) (f.1.listed 0 rules.few.0);
    lasting = λ later between before upper lower n k a b e t over u.
        let middle = between ++ (judge lower k b ∷ before) in
        let p = earlier start sound later (judge upper n a ∷ middle) (subst (Run start) e run) in
        let q = earlier start sound between (judge lower k b ∷ before) p.0 in
        let g = (state start before).content in
        let h = (state start middle).content in
        none_serves lower g (run_sound start sound before) q.1.0 b
        (found (judge_denial (state start before) k) lower g b q.1.1 (forbidden_not_denied b t)) t
        (allowed_below g h upper lower (run_sound start sound before) (run_sound start sound middle)
        (run_within start sound between (judge lower k b ∷ before)) q.1.0 over
        (some_serves upper h a (found (judge_denial (state start middle) n) upper h a p.1.1 (allowed_not_denied a u)) u));
  }

pub every_run : EveryRun
every_run start o ds run = law start (opened_sound start o) ds run

-- a right dealing carries every run on
pub carries : (s : State) (d : Dealing) → Right s d → Carries s d (after s d)
carries s d right = record {
  runs = λ start o ds run e. ((run, subst (λ (x : State). Right x d) (sym e) right), ap (λ (x : State). after x d) e);
  lawful = λ start o ds run e. every_run start o (d ∷ ds) (run, subst (λ (x : State). Right x d) (sym e) right);
}

pub calls_carry_on : CallsCarryOn
calls_carry_on = record {
  entries = λ g e. carries (as_open g) (entry e (denial g e)) (tt, refl);
  closing = λ g. carries (as_open g) close tt;
  judges = λ m rules s before result sheet j. record { judged = j; carries = carries s (judge m (length before) j.answer) (rules, j.right) };
}
