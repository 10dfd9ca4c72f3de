use Rattle.gds_syntax.proofs.OwnLaws.{contains_as_asked, contains_in_second}
use Rattle.gds_syntax.proofs.element_kind.ElementKind.owns.Goals as goal

pub returns-else-contains : goal.returns-else-contains
returns-else-contains c =
    let required = contains_as_asked c.required.result.now c.args.kind c.contains.result c.contains.ensures.cases in
    let optional = contains_as_asked c.optional.result.now c.args.kind c.contains-else-contains.result c.contains-else-contains.ensures.cases in
    let both = contains_in_second c.required.result.now c.optional.result.now c.args.kind c.contains.result c.contains-else-contains.result required optional c.if-contains.false in
    rw (c.required.ensures, c.optional.ensures) at both
