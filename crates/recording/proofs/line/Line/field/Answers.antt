use Rattle.std.proofs.Common.{ap, ◌∙◌}
use Rattle.recording.specs.Layout.{field}
use Rattle.recording.proofs.Fields.{cut_is_field}
use Rattle.recording.proofs.line.Line.field.Goals as goal

pub returns : goal.returns
returns c =
    let within = c.number-position.ensures.one_of_five
    in cut_is_field _ _ _ _ within.0 within.1 c.column.ensures c.column-2.ensures ∙ ap (field c.args.self.rest.now) c.number-position.ensures.its_number
