use Rattle.std.proofs.Common.{◌≡◌, Ok, Err, sym, ◌∙◌, arith, rules}
use Rattle.event.specs.declared.denial.Denial.{Denial}
use Rattle.event.specs.declared.denial.Denial.TheVariants.{Range}
use Rattle.std.proofs.lemmas.Result.{err_from_is_err_and}
use Rattle.std.proofs.lemmas.Bool.Decides.{nat_tests}
use Rattle.std.specs.Option.{ok_or}
use Rattle.boards.specs.Boards.{numbered}
use Rattle.recording.specs.Headings.{heading}
use Rattle.recording.proofs.Heads.{set_bound, bad_size, bad_strong, bad_barrier, bad_model, good_heading, flag, chosen_number, no_model}
use Rattle.recording.proofs.Mapped.{answered, refused}
use Rattle.recording.proofs.header.Header.of.Goals as goal

pub returns-in_err-size : goal.returns-in_err-size
returns-in_err-size c =
    let p = err_from_is_err_and c.from_residual.result c.from_residual.ensures.1
    in rw (p.1, p.2) (bad_size (heading c.args.fields) _ c.in_err-size.ensures.that_size_or_the_first_out_of_range)

pub returns-then-strong-threads : goal.returns-then-strong-threads
returns-then-strong-threads c =
    let h = heading c.args.fields
    in let size = c.in_ok-size.ensures.that_size_or_the_first_out_of_range
    in let bound = set_bound c.threads.result h.threads (omega arith) (c.threads.ensures.its_threads ∙ size.1)
    in bad_strong h size.0 (rw bound at c.if-strong-threads.true)

pub returns-then-barrier-gt1 : goal.returns-then-barrier-gt1
returns-then-barrier-gt1 c =
    let h = heading c.args.fields
    in let size = c.in_ok-size.ensures.that_size_or_the_first_out_of_range
    in let bound = set_bound c.threads.result h.threads (omega arith) (c.threads.ensures.its_threads ∙ size.1)
    in bad_barrier h size.0 (rw bound at c.if-strong-threads.false) c.if-barrier-gt1.true

pub returns-in_err-model : goal.returns-in_err-model
returns-in_err-model c =
    let h = heading c.args.fields
    in let size = c.in_ok-size.ensures.that_size_or_the_first_out_of_range
    in let bound = set_bound c.threads.result h.threads (omega arith) (c.threads.ensures.its_threads ∙ size.1)
    in let p = err_from_is_err_and c.from_residual-in_err-model.result c.from_residual-in_err-model.ensures.1
    in let q : (d : Denial) × (c.try_from.result ≡ Err d) × (c.in_err-model.field-0.0 ≡ Range 5) = refused _ c.map_err.ensures.cases _ (λ d y q. search rules) _ c.in_err-model.was
    in let chosen : c.try_from.result ≡ ok_or (numbered h.model) (Range 1) = grind (arith, nat_tests, c.try_from.ensures.the_model_of_that_number_or_range)
    in let none = no_model h.model q.0 (sym q.1 ∙ chosen)
    in rw (p.1, p.2, q.2) (bad_model h size.0 (rw bound at c.if-strong-threads.false) c.if-barrier-gt1.false none)

pub returns : goal.returns
returns c =
    let h = heading c.args.fields
    in let size = c.in_ok-size.ensures.that_size_or_the_first_out_of_range
    in let bound = set_bound c.threads.result h.threads (omega arith) (c.threads.ensures.its_threads ∙ size.1)
    in let barrier = flag h.barrier c.if-barrier-gt1.false
    in let made : c.try_from.result ≡ Ok c.in_ok-model.model = answered _ c.map_err.ensures.cases _ c.in_ok-model.was
    in let chosen : c.try_from.result ≡ ok_or (numbered h.model) (Range 1) = grind (arith, nat_tests, c.try_from.ensures.the_model_of_that_number_or_range)
    in let model = chosen_number h.model c.in_ok-model.model (sym made ∙ chosen)
    in (good_heading h size.0 (rw bound at c.if-strong-threads.false) c.if-barrier-gt1.false model.0, rw (size.1, size.2, barrier, model.1))
