-- The known verdicts, each by computing.
use Rattle.std.proofs.Common.{ℕ, List, [], ◌∷◌, refl}
use Rattle.event_set.specs.Sets.{bit}
use Rattle.model.specs.Layers.{within_threads}
use Rattle.model.specs.Layered.{layer_rules, within_threads_grows}
use Rattle.boards.specs.OfCoh.{coh_rules}
use Rattle.boards.specs.OfC11.{c11_rules}
use Rattle.boards.specs.OfRa.{ra_rules}
use Rattle.boards.specs.OfTso.{tso_rules}
use Rattle.boards.specs.OfSc.{sc_rules}
use Rattle.known.specs.Cases.{KnownVerdicts}
use Rattle.known.proofs.Deciding.{known_by}

-- the two open writes, and where each is placed
places_first : List (ℕ × ℕ)
places_first = (1, 0) ∷ (2, 0) ∷ []

infixr 5 ◌and◌
◌and◌ : {A B : Type 0} → A → B → A × B
◌and◌ a b = (a, b)

pub known_verdicts : KnownVerdicts
unfolding bit places_first
known_verdicts =
    known_by _ sc_rules [] tt tt (tt, tt, tt)
    and known_by _ tso_rules [] tt tt (tt, refl, refl)
    and known_by _ coh_rules [] tt tt (tt, refl, refl)
    and known_by _ ra_rules [] tt tt (tt, tt, tt)
    and known_by _ tso_rules [] tt tt (tt, tt, tt)
    and known_by _ c11_rules [] tt tt (tt, refl, refl)
    and known_by _ c11_rules [] tt tt (tt, tt, tt)
    and known_by _ coh_rules [] tt tt (tt, refl, refl)
    and known_by _ ra_rules [] tt tt (tt, tt, tt)
    and known_by _ (layer_rules (within_threads 3) _ (within_threads_grows 3) coh_rules) [] tt tt (tt, tt, tt)
    and known_by _ coh_rules [] tt tt (tt, tt, tt)
    and known_by _ ra_rules [] tt tt (tt, tt, tt)
    and known_by _ coh_rules places_first tt tt (tt, tt)
    and known_by _ c11_rules places_first tt tt (tt, tt)
    and known_by _ ra_rules places_first tt tt (tt, tt)
    and known_by _ tso_rules places_first tt tt (tt, tt)
    and known_by _ sc_rules places_first tt tt (tt, tt)
    and known_by _ coh_rules places_first tt tt (tt, refl, refl)
    and known_by _ coh_rules places_first tt tt (tt, tt)
    and known_by _ coh_rules [] tt tt (tt, refl, refl)
    and known_by _ c11_rules [] tt tt (tt, refl, refl)
    and known_by _ ra_rules [] tt tt (tt, refl, refl)
    and known_by _ tso_rules [] tt tt (tt, refl, refl)
    and known_by _ sc_rules [] tt tt (tt, refl, refl)
    and tt
