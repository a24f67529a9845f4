-- Relations between the events of a graph, as tests, and models made of them.
use Rattle.std.specs.Prelude.{ℕ, zero, suc, ◌<◌, Bool, ◌&&◌, ◌||◌, T, length, ◌==◌}
use Rattle.execution.specs.Content.{Content, same_location}
use Rattle.cycles.specs.Steps.{Closure}
use Rattle.model.specs.Meaning.{Meaning}

infixr 65 ◌∪◌
-- the pairs of either
abbrev pub ◌∪◌ : (ℕ → ℕ → Bool) → (ℕ → ℕ → Bool) → ℕ → ℕ → Bool
◌∪◌ r s a b = r a b || s a b

-- the pairs between accesses of one location
abbrev pub at_one_location : Content → (ℕ → ℕ → Bool) → ℕ → ℕ → Bool
at_one_location g r a b = r a b && same_location g a b

-- one or more steps, all events between them being below k
abbrev pub through : (ℕ → ℕ → Bool) → ℕ → ℕ → ℕ → Bool
through r zero a b = r a b
through r (suc k) a b = through r k a b || (through r k a k && through r k k b)

-- one or more steps between the events of a graph
abbrev pub steps : Content → (ℕ → ℕ → Bool) → ℕ → ℕ → Bool
steps g r = through r (length g.events)

-- where the pairs of r lead to the events of a graph, its steps are what "one or more steps" says
abbrev pub StepsAreOneOrMore : Type 0
StepsAreOneOrMore = (g : Content) (r : ℕ → ℕ → Bool) → ((a b : ℕ) → T (r a b) → b < length g.events) → Closure r (steps g r)

-- a model of one order
abbrev pub one_order : (Content → ℕ → ℕ → Bool) → Meaning
one_order r = record { orders = 1; pairs = λ g k a b. (k == 0) && r g a b }

-- a model of two orders
abbrev pub two_orders : (Content → ℕ → ℕ → Bool) → (Content → ℕ → ℕ → Bool) → Meaning
two_orders r s = record { orders = 2; pairs = λ g k a b. (k == 0 && r g a b) || (k == 1 && s g a b) }
