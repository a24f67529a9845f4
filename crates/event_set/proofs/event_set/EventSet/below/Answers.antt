use Rattle.std.proofs.Common.{rules}
use Rattle.event_set.proofs.Words.{has_below}
use Rattle.event_set.proofs.event_set.EventSet.below.Goals as goal

pub returns : goal.returns
returns c = record { has_just_those_below = has_below _ c.args.n (λ i k l m. search (rules, c.from_fn.ensures.items)) }
