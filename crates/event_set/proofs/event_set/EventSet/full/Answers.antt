use Rattle.event_set.proofs.Words.{has_all}
use Rattle.event_set.proofs.event_set.EventSet.full.Goals as goal

pub returns : goal.returns
returns c = record { has_every_event = has_all }
