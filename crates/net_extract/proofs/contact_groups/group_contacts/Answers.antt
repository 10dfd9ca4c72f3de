use Rattle.std.proofs.Common.{Vec, subst}
use Rattle.lists.proofs.Words.{IfOk-weaker}
use Rattle.std.specs.Global.{Global}
use Rattle.net_extract.specs.ContactGroups.{AreGroupsOf}
use Rattle.net_extract.specs.declared.pieces.ContactGroup.{ContactGroup}
use Rattle.net_extract.proofs.ContactGroupLaws.{groups_by_sort}
use Rattle.net_extract.proofs.contact_groups.group_contacts.Goals as goal

pub groups_in-requires : goal.groups_in-requires
groups_in-requires c = rw c.deref.ensures.value c.in_ok-sorted.ensures.ordered

pub returns : goal.returns
returns c =
    let contacts = c.args.contacts.now in
    let sorted = c.in_ok-sorted.ensures in
    IfOk-weaker _ _ _ (λ (groups : Vec ContactGroup Global) are. groups_by_sort contacts c.in_ok-sorted.sorted.items groups.items sorted.same sorted.kept
    (subst (λ xs. AreGroupsOf xs groups.items) c.deref.ensures.value are)) c.groups_in.ensures
