-- How many open writes are left from a number on: fewer with every one that is placed or left out.
use Rattle.std.proofs.Common.{◌≡◌, ℕ, ◌+◌, ◌<◌, ◌≤◌, ◌&&◌, T, leb, length, None, arith, le→leb, leb→le}
use Rattle.event.specs.Labels.{is_write}
use Rattle.execution.specs.Content.{Content, label_of, is_open}
use Rattle.execution.specs.Sound.{Sound}
use Rattle.execution.specs.Entries.{denial, entered, place}
use Rattle.execution.proofs.Tests.{both, left, right}
use Rattle.execution.proofs.Among.{write_among}
use Rattle.verdict.specs.Numbers.{count}
use Rattle.verdict.proofs.Counting.{count_less}
use Rattle.search.proofs.First.{was_open, not_open}

pub opens_from : ℕ → Content → ℕ
opens_from n g = count (length g.events) (λ w. leb n w && is_open g w)

module _ (g : Content) (sg : Sound g) (n w : ℕ) (from : n ≤ w) (opened : T (is_open g w)) (lowest : (u : ℕ) → n ≤ u → T (is_open g u) → w ≤ u) where
  among : w < length g.events
  among = write_among g w (left (is_write (label_of g w)) _ opened)

  pub fewer_placed : (v : ℕ) → denial g (place w v) ≡ None → opens_from n (entered g (place w v)) < opens_from n g
  unfolding opens_from
  fewer_placed v fit = count_less (length g.events) (λ x. leb n x && is_open (entered g (place w v)) x) (λ x. leb n x && is_open g x)
      (λ x l t. both (leb n x) _ (left (leb n x) _ t) (was_open g sg n w from opened lowest v x (right (leb n x) _ t)))
      w among (both (leb n w) _ (le→leb n w from) opened)
      (λ t. not_open g sg n w from opened lowest v fit (right (leb n w) _ t))

  pub fewer_left_out : opens_from (w + 1) g < opens_from n g
  unfolding opens_from
  fewer_left_out = count_less (length g.events) (λ x. leb (w + 1) x && is_open g x) (λ x. leb n x && is_open g x)
      (λ x l t. let above = leb→le (w + 1) x (left (leb (w + 1) x) _ t) in both (leb n x) _ (le→leb n x (omega arith)) (right (leb (w + 1) x) _ t))
      w among (both (leb n w) _ (le→leb n w from) opened)
      (λ t. let above = leb→le (w + 1) w (left (leb (w + 1) w) _ t) in omega arith)
