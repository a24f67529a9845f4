use Rattle.verdict.proofs.Unique.{one_answer, one_verdict}
use Rattle.verdict.proofs.Fitting.{answers_fit}
use Rattle.verdict.proofs.laws.one_right_verdict.Goals as goal

pub returns : goal.returns
returns c = record { every_answer_fits_its_sheet = answers_fit; one_right_answer_at_most = one_answer; one_result_and_one_sheet = one_verdict }
