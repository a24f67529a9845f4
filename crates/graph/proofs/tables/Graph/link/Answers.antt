use Rattle.execution.specs.Entries.{link}
use Rattle.graph.proofs.Stored.{entered_sound, linked}
use Rattle.graph.proofs.tables.Graph.link.Goals as goal

pub invariant_of-self : goal.invariant_of-self
invariant_of-self c =
    record { sound = entered_sound c.args.self.now (link c.args.read c.args.source) _ c.in_ok-check_link.ensures.first_test_that_fails (linked c.args.self.now c.args.read c.args.source _ c.set.ensures.in_place_of_the_one_there) }
