-- What has a label with a location, or a source, is among the events.
use Rattle.std.proofs.Common.{ℕ, ◌<◌, T, length, Some, None, subst, inl, inr}
use lib.ListN.{get_or-eq_default}
use Rattle.std.proofs.lemmas.Bool.{cases_lt}
use Rattle.event.specs.Labels.{no_event, agree, is_read, is_write}
use Rattle.execution.specs.Lists.{holds, precedes}
use Rattle.execution.specs.Content.{Content, label_of, same_location, rf, mo}
use Rattle.execution.specs.Sound.{Sound}
use Rattle.execution.proofs.Tests.{right}
use Rattle.execution.proofs.Lists.{precedes_first, precedes_second}

pub write_among : (g : Content) (w : ℕ) → T (is_write (label_of g w)) → w < length g.events
write_among g w h = elim (cases_lt w (length g.events)) [ inl l ↦ l | inr l ↦ absurd (subst (λ e. T (is_write e.label)) (get_or-eq_default g.events no_event l) h) ]

pub read_among : (g : Content) (r : ℕ) → T (is_read (label_of g r)) → r < length g.events
read_among g r h = elim (cases_lt r (length g.events)) [ inl l ↦ l | inr l ↦ absurd (subst (λ e. T (is_read e.label)) (get_or-eq_default g.events no_event l) h) ]

pub link_among : (g : Content) (w r : ℕ) → T (rf g w r) → r < length g.sources
link_among g w r h = elim (cases_lt r (length g.sources)) [ inl l ↦ l | inr l ↦ absurd (subst (λ s. T (agree s (Some w))) (get_or-eq_default g.sources None l) h) ]

pub placed_among : (g : Content) → Sound g → (w : ℕ) → T (holds g.placed w) → w < length g.events
placed_among g s w h = write_among g w (s.placed_writes w h)

pub mo_among : (g : Content) → Sound g → (a b : ℕ) → T (mo g a b) → (a < length g.events) × (b < length g.events)
mo_among g s a b h = (placed_among g s a (precedes_first g.placed a b k), placed_among g s b (precedes_second g.placed a b k))
  where
    k : T (precedes g.placed a b)
    k = right (same_location g a b) (precedes g.placed a b) h
