-- C11: a release write synchronises with an acquire read of it, and happens-before holds at each location.
use Rattle.std.specs.Prelude.{ℕ, Bool, true, false, ◌&&◌}
use Rattle.event.specs.declared.event.Mode.{Mode}
use Rattle.event.specs.declared.event.Mode.TheVariants.{NonAtomic, Relaxed, Acquire, Release, AcquireRelease, SeqCst}
use Rattle.event.specs.Labels.{mode_of}
use Rattle.execution.specs.Content.{Content, label_of, po, rf, mo, rb}
use Rattle.model.specs.Meaning.{Meaning}
use Rattle.boards.specs.Relations.{◌∪◌, at_one_location, steps, one_order}

-- modes 3, 4 and 5
abbrev pub releases : Mode → Bool
releases NonAtomic = false
releases Relaxed = false
releases Acquire = false
releases Release = true
releases AcquireRelease = true
releases SeqCst = true

-- modes 2, 4 and 5
abbrev pub acquires : Mode → Bool
acquires NonAtomic = false
acquires Relaxed = false
acquires Acquire = true
acquires Release = false
acquires AcquireRelease = true
acquires SeqCst = true

-- synchronizes-with: reads-from, from a releasing write to an acquiring read
abbrev pub sw : Content → ℕ → ℕ → Bool
sw g a b = rf g a b && (releases (mode_of (label_of g a)) && acquires (mode_of (label_of g b)))

-- happens-before: one or more steps of po or sw
abbrev pub c11_hb : Content → ℕ → ℕ → Bool
c11_hb g = steps g (po g ∪ sw g)

abbrev pub c11_order : Content → ℕ → ℕ → Bool
c11_order g = at_one_location g (c11_hb g) ∪ rf g ∪ mo g ∪ rb g

abbrev pub c11 : Meaning
c11 = one_order c11_order
