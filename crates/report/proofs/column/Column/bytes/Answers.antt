use Rattle.report.proofs.Spelled.{four_digits}
use Rattle.report.proofs.column.Column.bytes.Goals as goal

pub returns : goal.returns
returns c = (c.write.ensures.a_number_that_fits_stands_justified (four_digits c.args.self.number c.args.self.fits)).1
