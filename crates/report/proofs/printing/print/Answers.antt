use Rattle.std.proofs.Common.{◌≡◌, ℕ, replicate, Err, Result, sym, ap, ◌∙◌, subst}
use Rattle.std.proofs.lemmas.Result.{err_from_is_err_and}
use Rattle.event.specs.declared.denial.Denial.{Denial}
use Rattle.graph.specs.declared.tables.Graph.{Graph}
use Rattle.graph.specs.View.{view, of_closed}
use Rattle.graph.proofs.Soundness.{sound_of}
use Rattle.report.specs.Texts.{Written}
use Rattle.report.proofs.Columns.{Fits, Listable}
use Rattle.std.proofs.ByRecursion.{All-get_or}
use Rattle.report.specs.Flat.{from_sheet}
use Rattle.report.specs.Printing.{LawfullyPrinted}
use Rattle.report.proofs.Reporting.{one_report, reports_fit}
use Rattle.report.proofs.Promised.{zeros_long, zeros_fit, printed_denied, printed_short, printed_verdict, sheet_listable}
use Rattle.report.proofs.printing.print.Goals as goal
use Rattle.report.proofs.printing.print.Goals.{In_ok-verdict}
use Rattle.report.proofs.printing.print.Given.{Over}

pub returns-in_err-verdict : goal.returns-in_err-verdict
returns-in_err-verdict g c =
    let m = g.M.Model.meaning c.args.model.now in
    let p = err_from_is_err_and c.from_residual.result c.from_residual.ensures.1 in
    let denial : Denial = c.in_err-verdict.field-0.0 in
    let returned : c.from_residual.result ≡ Err denial = p.1 ∙ ap (λ (d : Denial). Err d) p.2 in
    record {
      the_right_report_and_the_law_holds_of_every_run_that_makes_this_graph =
          subst (λ (r : Result ℕ Denial). LawfullyPrinted m (of_closed c.args.graph) c.args.page.now r c.args.page.now) (sym returned)
          (printed_denied m (of_closed c.args.graph) c.args.page.now (replicate 1280 0) c.judge.new.sheet zeros_long _ c.in_err-verdict.ensures.judged_rightly_and_the_law_holds_of_every_run_that_makes_this_graph);
      no_other_result_or_page_is_right = one_report;
      every_report_fits_the_shortest_page = reports_fit;
    }

pub returns-then-page-lt-PAGE : goal.returns-then-page-lt-PAGE
returns-then-page-lt-PAGE g c =
    let m = g.M.Model.meaning c.args.model.now in
    record {
      the_right_report_and_the_law_holds_of_every_run_that_makes_this_graph =
          printed_short m (of_closed c.args.graph) c.args.page.now (replicate 1280 0) c.judge.new.sheet zeros_long c.in_ok-verdict.verdict
          c.in_ok-verdict.ensures.judged_rightly_and_the_law_holds_of_every_run_that_makes_this_graph c.if-page-lt-PAGE.true;
      no_other_result_or_page_is_right = one_report;
      every_report_fits_the_shortest_page = reports_fit;
    }

-- the numbers on the sheet
module _ (g : Over) (c : In_ok-verdict g) where
  shown : Listable c.judge.new.sheet
  shown =
      let x = c.args.model.now in
      sheet_listable (g.M.Model.meaning x) (of_closed c.args.graph) c.args.page.now (replicate 1280 0) c.judge.new.sheet zeros_long c.in_ok-verdict.verdict
      c.in_ok-verdict.ensures.judged_rightly_and_the_law_holds_of_every_run_that_makes_this_graph (g.met.M.Model.rules x) (sound_of c.args.graph.graph) (zeros_fit 1280) (c.judge.auto.sheet ∙ zeros_long)

pub invariant_of-sheet : goal.invariant_of-sheet
invariant_of-sheet g c =
    let sheet = shown g (goal.at.invariant_of-sheet g c).In_ok-verdict in
    record { few = sheet.few; fits = λ i l. All-get_or Fits c.judge.new.sheet i 0 l sheet.each }

pub returns : goal.returns
returns g c =
    let m = g.M.Model.meaning c.args.model.now in
    let w = subst (λ (x : Graph). Written 0 (from_sheet (view x) c.in_ok-verdict.verdict c.orders.result c.judge.new.sheet) c.args.page.now c.report.result c.report.new.page) c.graph.ensures.its_graph c.report.ensures in
    record {
      the_right_report_and_the_law_holds_of_every_run_that_makes_this_graph =
          printed_verdict m (of_closed c.args.graph) c.args.page.now (replicate 1280 0) c.judge.new.sheet zeros_long c.in_ok-verdict.verdict
          c.in_ok-verdict.ensures.judged_rightly_and_the_law_holds_of_every_run_that_makes_this_graph c.if-page-lt-PAGE.false c.orders.result _ _ c.orders.ensures.as_many_as_it_means w;
      no_other_result_or_page_is_right = one_report;
      every_report_fits_the_shortest_page = reports_fit;
    }
