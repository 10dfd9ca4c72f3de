use Rattle.std.proofs.Common.{None, Some, arith, sym, ◌∙◌}
use Rattle.std.proofs.lemmas.Str.Pattern.{contains_char, split_parts}
use Rattle.command_line.proofs.CellLaws.{have_parts, no_parts, not_parts}
use Rattle.command_line.proofs.cell.parts.Goals as goal

pub returns-in_default-clause-none : goal.returns-in_default-clause-none
returns-in_default-clause-none c = no_parts c.args.text.now (split_parts 44 c.args.text.now None c.in_default.ensures.cases (omega arith))

pub returns-then-contains-clause-none : goal.returns-then-contains-clause-none
returns-then-contains-clause-none c =
    let cut = split_parts 44 c.args.text.now (Some (c.in-Some.column, c.in-Some.row)) c.in-Some.ensures.cases (omega arith) in
    let comma = (contains_char 44 c.in-Some.row.now c.contains.result c.contains.ensures.cases (omega arith)).0 c.if-contains.true in
    not_parts c.args.text.now c.in-Some.column.now c.in-Some.row.now cut.0 cut.1 comma.0 comma.1 comma.2

pub returns-clause-some : goal.returns-clause-some
returns-clause-some c =
    let cut = split_parts 44 c.args.text.now (Some (c.in-Some.column, c.in-Some.row)) c.in-Some.ensures.cases (omega arith) in
    have_parts c.args.text.now c.in-Some.column.now c.in-Some.row.now cut.0 cut.1
    (λ k within is. let comma = (contains_char 44 c.in-Some.row.now c.contains.result c.contains.ensures.cases (omega arith)).1 k within is in
    let s = sym comma ∙ c.if-contains.false in cc s)
