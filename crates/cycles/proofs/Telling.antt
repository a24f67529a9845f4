-- The first cycle as it is told, event by event.
use Rattle.std.proofs.Common.{◌≡◌, ℕ, ◌+◌, ◌-◌, ◌<◌, ◌≤◌, Bool, ◌&&◌, T, List, [], ◌∷◌, ◌++◌, length, Decides, sym, refl, ap, ◌∙◌, subst, inl, inr, append-nil, arith}
use lib.Seq.{append_snoc}
use Rattle.std.proofs.lemmas.List.{length_push}
use Rattle.std.proofs.lemmas.Bool.{and_parts, and_from, cases_lt}
use Rattle.cycles.specs.Cycles.{Leads, FirstCycle, FirstReturn, Way}
use Rattle.cycles.proofs.Tests.{passed, is_true}
use Rattle.cycles.proofs.Layers.{way_none, way_step}
use Rattle.cycles.proofs.Firsts.{FirstWay, first_way_none, first_way_more, NoneShorter, is_first_cycle}

-- a step from a that a way by k events leads on to z
pub candidate : (r : ℕ → ℕ → Bool) (k a x z : ℕ) (layer : Bool) → Decides layer (Way r k x z) → Decides (r a x && layer) (T (r a x) × Way r k x z)
candidate r k a x z layer way = (
  λ h. let both = and_parts (r a x) layer h in (passed (r a x) both.0, way.0 both.1),
  λ w. and_from (r a x) layer (is_true (r a x) w.0) (way.1 w.1),
)

module _ (r : ℕ → ℕ → Bool) (start n : ℕ) where
  -- told from start as far as here, with k events still to come: any first way from here goes on as a first way from start
  pub record Told (told : List ℕ) (k here : ℕ) : Type 0 where
    pub past : List ℕ
    pub is : told ≡ start ∷ past
    pub counted : length past + k ≡ n
    pub way : Way r k here start
    pub goes_on : (zs : List ℕ) → length zs ≡ k → FirstWay r here zs start → FirstWay r start (past ++ zs) start

  pub told_none : (told : List ℕ) → told ≡ start ∷ [] → Way r n start start → Told told n start
  told_none told e w = record { past = []; is = e; counted = omega arith; way = w; goes_on = λ zs l f. f }

  module _ (told : List ℕ) (k here : ℕ) (t : Told told k here) where
    pub told_length : length told + k ≡ n + 1
    told_length = let e = ap length t.is in let f = t.counted in omega arith

    module _ (more : 0 < k) where
      -- some event leads on
      pub goes_somewhere : (m : ℕ) × T (r here m) × Way r (k - 1) m start
      goes_somewhere = way_step r (k - 1) here start (subst (λ j. Way r j here start) (let e : k ≡ k - 1 + 1 = omega arith in e) t.way)

      -- and the lowest that does is told next
      pub told_more : (after : List ℕ) (x : ℕ) → after ≡ told ++ (x ∷ []) → T (r here x) × Way r (k - 1) x start
          → ((y : ℕ) → y < x → T (r here y) × Way r (k - 1) y start → ⊥) → Told after (k - 1) x
      told_more after x e w low = record {
        past = t.past ++ (x ∷ []);
        is = e ∙ ap (λ (l : List ℕ). l ++ (x ∷ [])) t.is;
        counted = let f = t.counted in omega (arith, length_push t.past x);
        way = w.1;
        goes_on = λ zs l f.
            let first = first_way_more r here x zs start w.0 (λ y o h v. low y o (h, subst (λ j. Way r j y start) l v)) f in
            subst (λ (q : List ℕ). FirstWay r start q start) (sym (append_snoc t.past x zs)) (t.goes_on (x ∷ zs) (omega arith) first);
      }

    -- nothing is to come
    pub told_all : k ≤ 0 → FirstReturn r n start → FirstCycle r told
    told_all none f =
        let last : T (r here start) = passed (r here start) ((way_none r here start).1 (subst (λ j. Way r j here start) (let e : k ≡ 0 = omega arith in e) t.way)) in
        let whole = t.goes_on [] (omega arith) (first_way_none r here start last) in
        let way : FirstWay r start t.past start = subst (λ (q : List ℕ). FirstWay r start q start) (append-nil t.past) whole in
        let long : length t.past ≡ n = let e = t.counted in omega arith in
        let shorter : NoneShorter r (length t.past) = λ a ys h. soonest a ys h long in
        let lower = λ (b : ℕ) (l : b < start) (v : Way r (length t.past) b b). f.lowest b l (subst (λ j. Way r j b b) long v) in
        subst (λ (q : List ℕ). FirstCycle r q) (sym t.is) (is_first_cycle r start t.past shorter lower way)
      where
        soonest : (a : ℕ) (ys : List ℕ) → Leads r a ys a → length t.past ≡ n → length t.past ≤ length ys
        soonest a ys h e = elim (cases_lt (length ys) (length t.past)) [
          | inr l ↦ l
          | inl l ↦ absurd (f.soonest (length ys) a (omega arith) (ys, refl, h))
        ]
