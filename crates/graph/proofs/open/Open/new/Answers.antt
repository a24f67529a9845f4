use Rattle.execution.proofs.Steps.{steps_keep_and_grow}
use Rattle.graph.proofs.open.Open.new.Goals as goal

pub returns : goal.returns
returns c = record { initial_writes_placed_and_no_link = c.new.ensures.opens; every_entry_keeps_a_graph_sound_and_only_adds = steps_keep_and_grow }
