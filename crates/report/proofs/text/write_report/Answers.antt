use Rattle.std.proofs.Common.{OnErr, ℕ, ◌≡◌, List, ◌++◌, refl, sym, ap, ◌∙◌, Result, Ok, Err}
use Rattle.lists.proofs.Words.{append-nil, flat_map}
use Rattle.lists.specs.declared.memory.NoMemory.{NoMemory}
use Rattle.report.specs.Gains.{GainsPrefix}
use Rattle.report.specs.Report.{line_text, totals_text, report_text}
use Rattle.report.proofs.text.write_report.Goals as goal

-- bytes that stayed as they were gained the first part of a text, which is none of it
gained_none : (answer : Result (Unit {0}) NoMemory) (old new text : List ℕ) → new ≡ old → OnErr answer (GainsPrefix old new text)
gained_none (Ok _) old new text same = tt
gained_none (Err _) old new text same = (0, same ∙ sym (append-nil old))

pub returns-in_err-write_lines-clause-prefix : goal.returns-in_err-write_lines-clause-prefix
returns-in_err-write_lines-clause-prefix c = gained_none _ _ _ (report_text c.args.rows.now) refl

pub returns-in_err-write_totals-clause-prefix : goal.returns-in_err-write_totals-clause-prefix
returns-in_err-write_totals-clause-prefix c = gained_none _ _ _ (report_text c.args.rows.now) refl

pub returns-in_err-extend_from_slice-clause-prefix : goal.returns-in_err-extend_from_slice-clause-prefix
returns-in_err-extend_from_slice-clause-prefix c =
    gained_none _ _ _ (report_text c.args.rows.now) c.in_err-extend_from_slice.ensures.items

-- the text is the lines and then the totals, and `into` gained it
pub returns-clause-written : goal.returns-clause-written
returns-clause-written c =
    let rows = c.args.rows.now in
    let lines = c.in_ok-write_lines.ensures ∙ ap (λ x. x ++ flat_map line_text rows) c.new-text.ensures.bytes in
    let text = c.as_bytes.ensures.value ∙ c.in_ok-write_totals.ensures ∙ ap (λ x. x ++ totals_text rows) lines in
    c.in_ok-extend_from_slice.ensures.items ∙ ap (λ x. c.args.into.now.items ++ x) text
