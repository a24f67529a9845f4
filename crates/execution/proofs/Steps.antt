-- Every step keeps a graph sound and only adds to it.
use Rattle.std.proofs.Common.{◌≡◌, cond, is_some, Some, None, Option, refl, arith}
use Rattle.event.specs.declared.denial.Denial.{Denial}
use Rattle.execution.specs.Content.{Content}
use Rattle.execution.specs.Sound.{Sound, Within}
use Rattle.execution.specs.Entries.{Entry, record_event, link, place, denial, entered, StepsKeepAndGrow}
use Rattle.execution.proofs.Recording.{record_sound, record_within}
use Rattle.execution.proofs.Linking.{link_sound, link_within}
use Rattle.execution.proofs.Placing.{place_sound, place_within}

pub within_refl : (g : Content) → Within g g
within_refl g = record { threads = refl; locations = refl; count = omega arith; events = λ a l. refl; links = λ w r h. h; order = λ a b h. h }

pub entered_keeps : (g : Content) → Sound g → (e : Entry) → denial g e ≡ None → Sound (entered g e) × Within g (entered g e)
entered_keeps g s (record_event kind x) h = (record_sound g s kind x h, record_within g s kind x h)
entered_keeps g s (link r w) h = (link_sound g s r w h, link_within g s r w h)
entered_keeps g s (place w v) h = (place_sound g s w v h, place_within g s w v h)

pub steps_keep_and_grow : StepsKeepAndGrow
steps_keep_and_grow g s e = by (denial g e) refl
  where
    by : (o : Option Denial) → denial g e ≡ o → Sound (cond (is_some o) g (entered g e)) × Within g (cond (is_some o) g (entered g e))
    by None i = entered_keeps g s e i
    by (Some d) i = (s, within_refl g)
