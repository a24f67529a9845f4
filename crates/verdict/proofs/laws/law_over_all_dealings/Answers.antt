use Rattle.verdict.proofs.Runs.{every_run, calls_carry_on}
use Rattle.verdict.proofs.laws.law_over_all_dealings.Goals as goal

pub returns : goal.returns
returns c = record { exact_shown_and_lasting_in_every_run = every_run; every_call_carries_every_run_on = calls_carry_on }
