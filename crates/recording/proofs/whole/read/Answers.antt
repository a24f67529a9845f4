use Rattle.std.proofs.Common.{◌≡◌, Some, sym, ap, ◌∙◌}
use Rattle.std.proofs.lemmas.Result.{err_from_is_err_and}
use Rattle.graph.specs.View.{of_open}
use Rattle.recording.specs.Headings.{heading_of}
use Rattle.recording.specs.Meaning.{Outcome, unopened, taking, meaning}
use Rattle.recording.specs.Left.{ahead}
use Rattle.recording.specs.Answers.{whole}
use Rattle.recording.proofs.Reading.{all_ahead, opened_for}
use Rattle.recording.proofs.Window.{only_the_first_bytes, fault_within}
use Rattle.recording.proofs.whole.read.Goals as goal

pub returns-in_err-header : goal.returns-in_err-header
returns-in_err-header c =
    let bytes = c.args.bytes.now
    in let p = err_from_is_err_and c.from_residual.result c.from_residual.ensures.1
    in let all : meaning bytes ≡ ahead c.new-reader.result unopened = all_ahead c.new-reader.result bytes c.new-reader.ensures.everything_is_left c.new-reader.ensures.no_line_is_counted
    in let at-fault : (meaning bytes).fault ≡ Some c.in_err-header.field-0.0 = ap (λ (o : Outcome). o.fault) (all ∙ c.in_err-header.ensures.opens_what_is_left_or_tells_its_fault)
    in record {
      what_the_file_means = rw (p.1, p.2) at-fault;
      only_the_first_34_850_bytes_matter = only_the_first_bytes bytes;
      a_fault_is_on_one_of_1_025_lines = rw (p.1, p.2) (fault_within bytes _ at-fault);
    }

pub returns-in_err-fill : goal.returns-in_err-fill
returns-in_err-fill c =
    let bytes = c.args.bytes.now
    in let header = c.in_ok-header.header
    in let p = err_from_is_err_and c.from_residual-in_err-fill.result c.from_residual-in_err-fill.ensures.1
    in let all : meaning bytes ≡ ahead c.new-reader.result unopened = all_ahead c.new-reader.result bytes c.new-reader.ensures.everything_is_left c.new-reader.ensures.no_line_is_counted
    in let opened = opened_for header (of_open c.new-graph.result) c.new-graph.ensures.initial_writes_placed_and_no_link
    in let filling : meaning bytes ≡ ahead c.header.new.self (taking (heading_of header) (of_open c.new-graph.result)) = all ∙ c.in_ok-header.ensures.opens_what_is_left_or_tells_its_fault ∙ ap (ahead c.header.new.self) opened
    in let at-fault : (meaning bytes).fault ≡ Some c.in_err-fill.field-0.0 = ap (λ (o : Outcome). o.fault) filling ∙ (c.in_err-fill.ensures.the_lines_before_the_first_fault_stand (heading_of header)).0
    in record {
      what_the_file_means = rw (p.1, p.2) at-fault;
      only_the_first_34_850_bytes_matter = only_the_first_bytes bytes;
      a_fault_is_on_one_of_1_025_lines = rw (p.1, p.2) (fault_within bytes _ at-fault);
    }

pub returns : goal.returns
returns c =
    let bytes = c.args.bytes.now
    in let header = c.in_ok-header.header
    in let all : meaning bytes ≡ ahead c.new-reader.result unopened = all_ahead c.new-reader.result bytes c.new-reader.ensures.everything_is_left c.new-reader.ensures.no_line_is_counted
    in let opened = opened_for header (of_open c.new-graph.result) c.new-graph.ensures.initial_writes_placed_and_no_link
    in let filling : meaning bytes ≡ ahead c.header.new.self (taking (heading_of header) (of_open c.new-graph.result)) = all ∙ c.in_ok-header.ensures.opens_what_is_left_or_tells_its_fault ∙ ap (ahead c.header.new.self) opened
    in record {
      what_the_file_means = filling ∙ c.in_ok-fill.ensures.the_lines_before_the_first_fault_stand (heading_of header) ∙ ap (whole (heading_of header)) (sym c.close.ensures.keeps_everything);
      only_the_first_34_850_bytes_matter = only_the_first_bytes bytes;
      a_fault_is_on_one_of_1_025_lines = tt;
    }
