use Rattle.std.proofs.Common.{◌≡◌, ℕ, List, ap, arith}
use Rattle.report.specs.Pages.{report_line}
use Rattle.report.specs.Files.{denial_text}
use Rattle.report.proofs.Filed.{line_long}
use Rattle.report.proofs.task.tell_denial.Goals as goal

pub returns-clause-long : goal.returns-clause-long
returns-clause-long c =
    let line = c.denial_line.ensures in
    line_long c.denial_line.result c.number.result c.args.line c.args.place c.args.page.now c.denial_line.new.page (omega arith) c.requires (omega arith)
    line.denied_exactly_in_its_cases line.the_line_stands_in_front_and_the_rest_stays line.answers_its_length
    (λ (x : List ℕ). x ≡ denial_text c.args.denial c.args.line c.args.place) (ap (λ (n : ℕ). report_line 68 n c.args.line c.args.place) c.number.ensures.number_of_its_case)
