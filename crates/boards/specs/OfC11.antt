-- C11 keeps the rules, and follows the textbook.
use Rattle.std.specs.Prelude.{ℕ, Bool, ◌&&◌, T, refl}
use Rattle.std.proofs.Common.{sym, ap₂}
use Rattle.std.proofs.Math.Path.{subst}
use Rattle.event.specs.declared.event.Label.{Label}
use Rattle.event.specs.declared.event.Mode.{Mode}
use Rattle.event.specs.declared.event.Mode.TheVariants.{NonAtomic, Relaxed, Acquire, Release, AcquireRelease, SeqCst}
use Rattle.event.specs.Labels.{mode_of}
use Rattle.execution.specs.Content.{Content, label_of, po, rf, mo, rb, same_location}
use Rattle.execution.specs.Sound.{Sound}
use Rattle.model.specs.Meaning.{Rules}
use Rattle.boards.specs.Relations.{◌∪◌, at_one_location}
use Rattle.boards.specs.C11.{releases, acquires, sw, c11_hb, c11_order, c11}
use Rattle.execution.proofs.Tests.{both, left, right}
use Rattle.model.specs.Either.{or_left}
use Rattle.model.specs.Growing.{Grows, join, part, near, label_within, rf_grows, po_grows}
use Rattle.boards.specs.Stepping.{steps_grow, one_step}
use Rattle.boards.specs.Keeping.{one_order_rules, rest_grows, coheres}
use Rattle.boards.specs.Textbook as book
use Rattle.boards.specs.Textbook.{na_rlx, rlx_acq, rlx_rel, acq_acqrel, rel_acqrel, acqrel_sc, as_strong, stronger}
use Rattle.boards.specs.Agreement.{Follows}
use Rattle.boards.specs.Agreeing.{Same, same_itself, same_union, same_near, same_steps, same_rest, follows_one}

sw_grows : Grows sw
sw_grows = part rf (λ g a b. releases (mode_of (label_of g a)) && acquires (mode_of (label_of g b))) rf_grows
    (λ g h i a b k l. ap₂ (λ (x y : Label). releases (mode_of x) && acquires (mode_of y)) (label_within g h i a k) (label_within g h i b l))

pub po_or_sw_grows : Grows (λ g. po g ∪ sw g)
po_or_sw_grows = join po sw po_grows sw_grows

pub c11_hb_grows : Grows c11_hb
c11_hb_grows = steps_grow (λ g. po g ∪ sw g) po_or_sw_grows

pub c11_rules : Rules c11
c11_rules = one_order_rules c11_order
    (join (λ g. at_one_location g (c11_hb g)) (λ g. rf g ∪ mo g ∪ rb g) (near c11_hb c11_hb_grows) rest_grows)
    (λ g s. coheres g (at_one_location g (c11_hb g)) (λ a b x y. both (c11_hb g a b) (same_location g a b) (one_step g (po g ∪ sw g) a b (or_left (po g a b) (sw g a b) x)) y))

-- what is stronger than a releasing mode releases too, and so with acquiring
more_releases : {m n : Mode} → book.AtMost m n → T (releases m) → T (releases n)
more_releases as_strong h = h
more_releases (stronger na_rlx w) h = elim h [ ]
more_releases (stronger rlx_acq w) h = elim h [ ]
more_releases (stronger rlx_rel w) h = elim h [ ]
more_releases (stronger acq_acqrel w) h = elim h [ ]
more_releases (stronger rel_acqrel w) h = more_releases w tt
more_releases (stronger acqrel_sc w) h = more_releases w tt

more_acquires : {m n : Mode} → book.AtMost m n → T (acquires m) → T (acquires n)
more_acquires as_strong h = h
more_acquires (stronger na_rlx w) h = elim h [ ]
more_acquires (stronger rlx_acq w) h = elim h [ ]
more_acquires (stronger rlx_rel w) h = elim h [ ]
more_acquires (stronger acq_acqrel w) h = more_acquires w tt
more_acquires (stronger rel_acqrel w) h = elim h [ ]
more_acquires (stronger acqrel_sc w) h = more_acquires w tt

-- a releasing mode is at least release, an acquiring one at least acquire
at_least_release : (m : Mode) → T (releases m) → book.AtMost Release m
at_least_release NonAtomic h = elim h [ ]
at_least_release Relaxed h = elim h [ ]
at_least_release Acquire h = elim h [ ]
at_least_release Release h = as_strong
at_least_release AcquireRelease h = stronger rel_acqrel as_strong
at_least_release SeqCst h = stronger rel_acqrel (stronger acqrel_sc as_strong)

at_least_acquire : (m : Mode) → T (acquires m) → book.AtMost Acquire m
at_least_acquire NonAtomic h = elim h [ ]
at_least_acquire Relaxed h = elim h [ ]
at_least_acquire Acquire h = as_strong
at_least_acquire Release h = elim h [ ]
at_least_acquire AcquireRelease h = stronger acq_acqrel as_strong
at_least_acquire SeqCst h = stronger acq_acqrel (stronger acqrel_sc as_strong)

-- reads-from, from a releasing write to an acquiring read
module _ (g : Content) where
  releasing : ℕ → Bool
  releasing a = releases (mode_of (label_of g a))

  acquiring : ℕ → Bool
  acquiring b = acquires (mode_of (label_of g b))

  same_sw : Sound g → Same (sw g) (book.SW g)
  unfolding releasing acquiring
  same_sw s a b = (
    λ h. let r = left (rf g a b) _ h in let m = right (rf g a b) _ h in (
      a,
      (((s.linked a b r).writes, at_least_release _ (left (releasing a) _ m)), refl),
      (b, r, (((s.linked a b r).reads, at_least_acquire _ (right (releasing a) (acquiring b) m)), refl)),
    ),
    λ h. let from = h.1.1 in let mid = h.2 in let to = mid.2.1 in
        let r : T (rf g a b) = subst (λ x. T (rf g x b)) (sym from) (subst (λ y. T (rf g h.0 y)) to mid.1) in
        both (rf g a b) _ r (both (releasing a) (acquiring b)
        (more_releases h.1.0.1 tt)
        (subst (λ y. T (acquiring y)) to (more_acquires mid.2.0.1 tt))),
  )

-- one or more steps of po or sw
same_hb : (g : Content) → Sound g → Same (c11_hb g) (book.HB g)
same_hb g s = same_steps (po g ∪ sw g) _ (same_union (po g) (sw g) _ _ (same_itself (po g)) (same_sw g s)) g (λ a b h. (po_or_sw_grows.inside g s a b h).1)

pub c11_follows : Follows c11 book.C11Consistent
c11_follows = follows_one c11_order (λ g M. book.◌∪◌ (book.per_location g (book.HB g)) (book.◌∪◌ (book.RF g) (book.◌∪◌ M (book.RB g M))))
    (λ g s. same_union (at_one_location g (c11_hb g)) (rf g ∪ mo g ∪ rb g) _ _ (same_near g (c11_hb g) (book.HB g) (same_hb g s)) (same_rest g))
