use Rattle.std.proofs.Common.{◌≡◌, ℕ, ◌<◌, ◌≤◌, Bool, true, false, cond, eqb, List, length, Some, Err, sym, refl, ap, ◌∙◌, subst}
use Rattle.graph.specs.View.{of_closed}
use Rattle.recording.specs.Headings.{heading_of, model_number}
use Rattle.boards.specs.declared.board.Board.{Board}
use Rattle.boards.specs.declared.board.Board.TheVariants.{Coh, C11, Ra, Tso, Sc}
use Rattle.boards.specs.Boards.{numbered, meaning_of}
use Rattle.verdict.specs.Answers.{laid}
use Rattle.piles.specs.Piles.{piled}
use Rattle.report.specs.Printing.{LawfullyPrinted}
use Rattle.report.specs.Files.{denial_text, ToldOf, pile_of}
use Rattle.report.proofs.Filed.{page_kept, denial_told}
use Rattle.report.proofs.task.report_recording.Goals as goal

-- the number on the H line that asks for the barrier layer
asked : (b : Bool) → b ≡ eqb (cond b 1 0) 1
asked true = refl
asked false = refl

-- a model is the one of its own number
numbered_again : (b : Board) → numbered (model_number b) ≡ Some b
numbered_again Coh = refl
numbered_again C11 = refl
numbered_again Ra = refl
numbered_again Tso = refl
numbered_again Sc = refl

pub returns-in-Err : goal.returns-in-Err
returns-in-Err c =
    let header = c.args.recording.header in
    let g = of_closed c.args.recording.graph in
    let before = c.args.page.now in
    let after = c.print_recording.new.page in
    let denial = c.in-Err.denial in
    let chosen = numbered_again header.model in
    let printed : LawfullyPrinted (pile_of (heading_of header) header.model) g before (Err denial) after =
    subst (λ (b : Bool). LawfullyPrinted (piled header.strong b (meaning_of header.model)) g before (Err denial) after) (asked header.barrier) c.in-Err.ensures in
    let kept : after ≡ before = page_kept (heading_of header) g header.model chosen before denial after printed in
    record {
      short = λ s.
          let told = c.tell_denial.ensures.short (subst (λ (p : List ℕ). length p < 17934) (sym kept) s) in
          (told.0, told.1 ∙ kept);
      long = λ l.
          let told = c.tell_denial.ensures.long (subst (λ (p : List ℕ). 17934 ≤ length p) (sym kept) l) in
          record {
            text = told.text;
            serves = subst (λ (text : List ℕ). ToldOf (heading_of header) g text) (sym (told.serves ∙ ap (denial_text denial 0) c.position.ensures.position_of_its_case))
                (denial_told (heading_of header) g header.model chosen before denial after printed l);
            returned = told.returned;
            page = told.page ∙ ap (laid told.text) kept;
          };
    }
