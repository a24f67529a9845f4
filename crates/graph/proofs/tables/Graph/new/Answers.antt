use Rattle.std.proofs.Common.{◌≡◌, subst, arith, rules}
use Rattle.execution.specs.Content.{opening}
use Rattle.execution.specs.Sound.{Sound}
use Rattle.execution.proofs.Opening.{opening_sound}
use Rattle.graph.specs.Tables.{content}
use Rattle.graph.proofs.tables.Graph.new.Goals as goal

pub invariant_of-result : goal.invariant_of-result
invariant_of-result c =
    let same : opening c.threads.result c.locations.result ≡ content c.threads.result c.locations.result c.loop-location.events c.loop-location.sources c.loop-location.placed = search rules in
    record { sound = ∣ subst Sound same (opening_sound c.threads.result c.locations.result (omega arith) (omega arith) (omega arith) (omega arith)) ∣₁ }
