use Rattle.std.proofs.Common.{take_all, subst}
use Rattle.lists.proofs.Words.{AllZip}
use Rattle.lists.proofs.Pairing.{AllZip-more}
use Rattle.net_extract.specs.ContactGroups.{AreGroupsOf}
use Rattle.net_extract.proofs.contact_groups.group_lists.Goals as goal

pub loop-list-preserved : goal.loop-list-preserved
loop-list-preserved c =
    let contacts = c.args.contacts.now in
    let list = c.list-item.result in
    let is : AreGroupsOf list c.from_vec.result = rw (c.from_vec.ensures, ← c.as_slice.ensures) c.in_ok-group_contacts.ensures in
    rw c.in_ok-push.ensures.items
    (AllZip-more AreGroupsOf contacts c.loop-list.groups.items c.loop-list.list-index list c.from_vec.result c.loop-list-test.true c.list-item.is c.loop-list.invariant is)

pub returns : goal.returns
returns c =
    rw c.from_vec-2.ensures (subst (λ xs. AllZip AreGroupsOf xs c.loop-list.groups.items) (take_all c.loop-list.list-index c.args.contacts.now c.loop-list-test.false) c.loop-list.invariant)
