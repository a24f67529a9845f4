use Rattle.std.proofs.Common.{rules, ◌≡◌, Ok, Err, sym, refl, ap, ◌∙◌, subst}
use Rattle.std.proofs.lemmas.Result.{err_from_is_err_and}
use Rattle.graph.specs.View.{of_open}
use Rattle.recording.specs.declared.fault.Denied.{Denied}
use Rattle.recording.specs.declared.reader.Reader.{Reader}
use Rattle.recording.specs.Lines.{lines}
use Rattle.recording.specs.Left.{left}
use Rattle.recording.specs.OneLine.{stage}
use Rattle.recording.proofs.Mapped.{answered, refused}
use Rattle.recording.proofs.Reading.{denied, missing_at, whole_at, unfinished_yet, entered_on, not_entered, filled_to, Taken, taken_none, taken_more, taken_to, taken_all}
use Rattle.recording.proofs.reader.Reader.fill.Goals as goal

pub loop-line-init : goal.loop-line-init
loop-line-init c = (λ h. refl, taken_none c.args.self.now)

pub loop-line-preserved : goal.loop-line-preserved
loop-line-preserved c =
    let a = c.loop-line.self
    in let b = c.next_line.new.self
    in let l = c.in-Some.line.now
    in let next = c.in-Some.ensures.the_first_line_of_what_is_left
    in let counted = c.in-Some.ensures.a_line_is_counted_or_nothing_changes
    in let answer : c.enter.result ≡ Ok c.in_ok-ended.ended = answered _ c.map_err.ensures.cases _ c.in_ok-ended.was
    in (
      λ h. c.loop-line.invariant.0 h ∙ entered_on a b l next counted c.loop-line.ended c.in_ok-ended.ended (of_open c.loop-line.graph) (of_open c.enter.new.graph) c.enter.result c.enter.ensures answer h,
      taken_more c.args.self.now a b l c.loop-line.invariant.1 next counted,
    )

pub returns-in_err-ended : goal.returns-in_err-ended
returns-in_err-ended c =
    let a = c.loop-line.self
    in let b = c.next_line.new.self
    in let l = c.in-Some.line.now
    in let next = c.in-Some.ensures.the_first_line_of_what_is_left
    in let counted = c.in-Some.ensures.a_line_is_counted_or_nothing_changes
    in let answer : (c.enter.result ≡ Err c.in_err-ended.field-0.0.denial) × (c.in_err-ended.field-0.0.line ≡ b.line) = denied _ _ (refused _ c.map_err.ensures.cases _ (λ d y q. search rules) _ c.in_err-ended.was)
    in let p = err_from_is_err_and c.from_residual.result c.from_residual.ensures.1
    in record {
      the_lines_before_the_first_fault_stand = λ h.
          let q = not_entered a b l next counted c.loop-line.ended (of_open c.loop-line.graph) (of_open c.enter.new.graph) c.enter.result _ c.enter.ensures answer h
          in rw (p.1, p.2) (filled_to _ c.loop-line.ended h _ _ _ (c.loop-line.invariant.0 h ∙ q.0) q.1);
      takes_the_lines_up_to_the_fault =
          rw p.1 (taken_to c.args.self.now b _ _ _ (taken_more c.args.self.now a b l c.loop-line.invariant.1 next counted) p.2 answer.1);
    }

pub returns-then-not-ended : goal.returns-then-not-ended
returns-then-not-ended c =
    let a = c.loop-line.self
    in let b = c.next_line.new.self
    in let none = c.in_default.ensures.the_first_line_of_what_is_left
    in let same = c.in_default.ensures.a_line_is_counted_or_nothing_changes
    in record {
      the_lines_before_the_first_fault_stand = λ h.
          filled_to _ c.loop-line.ended h (of_open c.loop-line.graph) (of_open c.loop-line.graph) c.from.result
          (c.loop-line.invariant.0 h ∙ missing_at a b (stage c.loop-line.ended h (of_open c.loop-line.graph)) _ _ none same c.end_missing.ensures c.from.ensures (unfinished_yet _ c.loop-line.ended h _ c.if-not-ended.true))
          refl;
      takes_the_lines_up_to_the_fault =
          taken_all c.args.self.now b _ _ _ (subst (Taken c.args.self.now) (sym same) c.loop-line.invariant.1) (ap (λ (r : Reader). lines (left r)) same ∙ none) c.from.ensures (ap (λ (x : Denied). x.line) c.end_missing.ensures);
    }

pub returns : goal.returns
returns c =
    let none = c.in_default.ensures.the_first_line_of_what_is_left
    in record {
      the_lines_before_the_first_fault_stand = λ h.
          c.loop-line.invariant.0 h ∙ whole_at c.loop-line.self c.loop-line.ended h (of_open c.loop-line.graph) none c.if-not-ended.false;
      takes_the_lines_up_to_the_fault = ap (λ (r : Reader). lines (left r)) c.in_default.ensures.a_line_is_counted_or_nothing_changes ∙ none;
    }
