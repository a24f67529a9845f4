use Rattle.report.proofs.Spelled.{line_spelled}
use Rattle.report.proofs.line.report_line.Goals as goal

pub returns : goal.returns
returns c = line_spelled c.args.letter c.args.first.number c.args.second.number c.args.third.number c.bytes.result c.bytes-2.result c.bytes-3.result c.args.first.fits c.args.second.fits c.args.third.fits c.bytes.ensures c.bytes-2.ensures c.bytes-3.ensures
