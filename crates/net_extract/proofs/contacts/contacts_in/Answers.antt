use Rattle.std.proofs.Common.{sym, subst}
use Rattle.net_extract.specs.inside.LabelledCells.{ArePartsIn}
use Rattle.net_extract.proofs.ContactLaws.{contacts_are}
use Rattle.net_extract.proofs.SlimLaws.{parts_slim}
use Rattle.net_extract.proofs.contacts.contacts_in.Goals as goal

pub returns-clause-exact : goal.returns-clause-exact
returns-clause-exact c =
    let slim = parts_slim c.args.cut.now c.args.lower.now c.in_ok-parts_in.field-0.items c.in_ok-parts.parts.items c.in_ok-parts_in.ensures c.in_ok-parts.ensures in
    let parts = subst (ArePartsIn c.args.cut.now c.args.lower.now) (sym c.deref.ensures.value) slim in
    rw c.from_vec.ensures (contacts_are c.args.cut.now c.args.lower.now c.args.upper.now c.deref.result.now c.in_ok-meetings.field-0.items parts c.in_ok-meetings.ensures.exact)

pub returns-clause-once : goal.returns-clause-once
returns-clause-once c = rw c.from_vec.ensures c.in_ok-meetings.ensures.once
