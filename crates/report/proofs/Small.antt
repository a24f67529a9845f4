-- What an answer shows are events of the graph, and so numbers of few columns.
use Rattle.std.proofs.Common.{◌≡◌, ℕ, ◌<◌, ◌≤◌, Bool, not, List, [], ◌∷◌, length, get_or, Some, sym, refl, ap, subst, arith}
use Rattle.std.specs.List.{AllByRecursion}
use Rattle.std.proofs.ByRecursion.{All-append, All-weaker, All-from_get_or, All-map, all_kept_by}
use Rattle.std.proofs.lemmas.List.{length-map}
use Rattle.std.proofs.lemmas.List.Filters.{length-filter_both}
use Rattle.event.specs.Labels.{agree, location}
use Rattle.execution.specs.Lists.{upto}
use Rattle.execution.specs.Content.{Content, label_of}
use Rattle.execution.specs.Sound.{Sound}
use Rattle.execution.proofs.Lists.{few_distinct, upto_length}
use Rattle.execution.proofs.Among.{placed_among}
use Rattle.cycles.specs.Cycles.{Cycle}
use Rattle.cycles.proofs.Walks.{leads_inside, Inside}
use Rattle.cycles.proofs.Listed.{begun_inside, listing_begun, listing_length}
use Rattle.model.specs.Meaning.{Meaning}
use Rattle.verdict.specs.Shown.{modification_order, Shown}
use Rattle.verdict.specs.Answers.{joined}
use Rattle.report.proofs.Columns.{Fits, Listable}
use Rattle.report.proofs.Orders.{all_held}

pub all_joined : (P : ℕ → Type 0) (xss : List (List ℕ)) → AllByRecursion (λ (xs : List ℕ). AllByRecursion P xs) xss → AllByRecursion P (joined xss)
all_joined P [] f = tt
all_joined P (xs ∷ xss) f = All-append P xs (joined xss) f.0 (all_joined P xss f.1)

-- at most as many numbers as a sheet has, each that of an event
pub record Small (xs : List ℕ) : Type 0 where
  pub few : length xs ≤ 256
  pub each : AllByRecursion (λ x. x < 256) xs

pub fits_all : (xs : List ℕ) → AllByRecursion (λ x. x < 256) xs → AllByRecursion Fits xs
fits_all xs f = All-weaker (λ x. x < 256) Fits (λ x l. omega arith) xs f

pub small_listable : (xs : List ℕ) → Small xs → Listable xs
small_listable xs s = record { few = omega (arith, s.few); each = fits_all xs s.each }

module _ (m : Meaning) (g h : Content) (lists orders : List (List ℕ)) (shown : Shown m g h lists orders) where
  sound : Sound h
  sound = shown.placed.completes.sound

  -- a list has all events
  pub lists_long : AllByRecursion (λ (xs : List ℕ). length xs ≡ length h.events) lists
  lists_long = All-from_get_or (λ (xs : List ℕ). length xs ≡ length h.events) lists [] (λ k l.
      listing_length (m.pairs h k) (length h.events) (get_or lists k []) (shown.listed k (let b : k < m.orders = omega (arith, shown.as_many) in b)))

  pub lists_small : AllByRecursion Small lists
  lists_small = All-from_get_or Small lists [] (λ k l.
      let b : k < m.orders = omega (arith, shown.as_many) in
      let listing = shown.listed k b in
      let n = length h.events in
      record {
        few = omega (arith, listing_length (m.pairs h k) n (get_or lists k []) listing, sound.few_events);
        each = All-weaker (λ x. x < n) (λ x. x < 256) (λ x i. omega (arith, sound.few_events)) (get_or lists k []) (begun_inside (m.pairs h k) n (get_or lists k []) (listing_begun (m.pairs h k) n (get_or lists k []) listing));
      })

  placed_small : AllByRecursion (λ x. x < 256) h.placed
  placed_small = all_held (λ x. x < 256) h.placed (λ a k. omega (arith, placed_among h sound a k, sound.few_events))

  placed_few : length h.placed ≤ 256
  placed_few = omega (arith, few_distinct (length h.events) h.placed sound.placed_once (placed_among h sound), sound.few_events)

  pub orders_small : AllByRecursion Small orders
  orders_small = subst (λ (xss : List (List ℕ)). AllByRecursion Small xss) (sym shown.ordered) (All-map Small (modification_order h) (upto h.locations) (each_location (upto h.locations)))
    where
      each_location : (ls : List ℕ) → AllByRecursion (λ l. Small (modification_order h l)) ls
      each_location [] = tt
      each_location (l ∷ ls) = (
        record {
          few = omega (arith, placed_few, length-filter_both (λ w. agree (location (label_of h w)) (Some l)) (λ w. not (agree (location (label_of h w)) (Some l))) (λ w. refl) h.placed);
          each = all_kept_by (λ w. agree (location (label_of h w)) (Some l)) (λ x. x < 256) h.placed placed_small;
        },
        each_location ls,
      )

  pub orders_few : length orders ≤ 16
  orders_few = omega (arith, ap length shown.ordered, length-map (upto h.locations) (modification_order h), upto_length h.locations, sound.few_locations)

-- a cycle goes through events
pub cycle_small : (r : ℕ → ℕ → Bool) (n : ℕ) → Inside n r → (xs : List ℕ) → Cycle r xs → AllByRecursion (λ x. x < n) xs
cycle_small r n inside [] h = absurd h
cycle_small r n inside (a ∷ xs) h = leads_inside r n inside a xs a h
