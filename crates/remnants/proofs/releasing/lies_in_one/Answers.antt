use Rattle.std.proofs.Common.{List, Contains, subst}
use Rattle.lists.proofs.Words.{Contains-append_left, Contains-append_right}
use Rattle.half_boxes.specs.declared.boxes.HalfBox.{HalfBox}
use Rattle.remnants.proofs.releasing.lies_in_one.Goals as goal

pub returns-then-lies_in_last : goal.returns-then-lies_in_last
returns-then-lies_in_last c = λ yes.
    let boxes = c.args.boxes.now in
    let found = c.lies_in_last.ensures c.if-lies_in_last.true in
    (found.0, Contains-append_left boxes.by_columns.items boxes.by_rows.items found.0 (subst (λ (xs : List HalfBox). Contains xs found.0) c.as_slice-by_columns.ensures.value found.1), found.2)

pub returns : goal.returns
returns c = λ yes.
    let boxes = c.args.boxes.now in
    let found = c.lies_in_last-2.ensures yes in
    (found.0, Contains-append_right boxes.by_columns.items boxes.by_rows.items found.0 (subst (λ (xs : List HalfBox). Contains xs found.0) c.as_slice-by_rows.ensures.value found.1), found.2)
