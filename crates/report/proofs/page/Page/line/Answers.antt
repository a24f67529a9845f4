use Rattle.std.proofs.Common.{◌∙◌, arith}
use Rattle.report.specs.Pages.{report_line}
use Rattle.report.proofs.Spelled.{columns_length}
use Rattle.report.proofs.Onward.{put_over}
use Rattle.report.proofs.page.Page.line.Goals as goal

pub returns-clause-written : goal.returns-clause-written
returns-clause-written c =
    let text = report_line c.args.letter c.args.first.number c.args.second.number c.args.third.number in
    let long = columns_length c.args.letter c.args.first c.args.second c.args.third in
    record {
      ends = omega arith;
      page = put_over c.args.self.now.at _ c.args.self.now.bytes.now c.copy_from_slice.new.self text (c.copy_from_slice.ensures.after ∙ c.report_line-line.ensures) (omega arith);
    }
