use Rattle.std.proofs.Common.{arith}
use Rattle.model.proofs.Threads.{its_digit, no_thread}
use Rattle.model.proofs.layers.strong.has_thread.Goals as goal

pub returns-in-1-to-16 : goal.returns-in-1-to-16
returns-in-1-to-16 c = its_digit c.args.threads c.args.thread (omega arith)

pub returns-in_default-2 : goal.returns-in_default-2
returns-in_default-2 c = no_thread c.args.threads c.args.thread c.ranges.threads.fits (λ h. omega arith)
