use Rattle.event_set.proofs.Words.{has_none}
use Rattle.event_set.proofs.event_set.EventSet.empty.Goals as goal

pub returns : goal.returns
returns c = record { has_no_event = has_none }
