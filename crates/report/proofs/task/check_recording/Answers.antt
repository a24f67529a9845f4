use Rattle.std.proofs.Common.{subst}
use Rattle.graph.specs.View.{of_closed}
use Rattle.graph.proofs.Soundness.{sound_of}
use Rattle.recording.specs.Headings.{heading_of}
use Rattle.recording.specs.Meaning.{Outcome}
use Rattle.report.specs.Files.{Told}
use Rattle.report.proofs.Filed.{one_telling}
use Rattle.report.proofs.task.check_recording.Goals as goal

pub returns-in-Ok-clause-no_other_text_is_right : goal.returns-in-Ok-clause-no_other_text_is_right
returns-in-Ok-clause-no_other_text_is_right c =
    let means = c.in-Ok.ensures.what_the_file_means in
    λ x y p q. one_telling (heading_of c.in-Ok.recording.header) (of_closed c.in-Ok.recording.graph) (sound_of c.in-Ok.recording.graph.graph) x y
    (subst (λ (o : Outcome). Told o x) means p) (subst (λ (o : Outcome). Told o y) means q)
