use Rattle.std.proofs.Common.{◌<◌, ◌∙◌, [], arith, get_or, length, subst, sym}
use Rattle.lists.proofs.Words.{AllZip-long, get_or_read}
use Rattle.net_extract.specs.ContactGroups.{AreGroupsOf}
use Rattle.net_extract.specs.NetLists.{NetLists, contacts_of}
use Rattle.net_extract.specs.Standing.{groups_of}
use Rattle.net_extract.proofs.laws.NamedLaws.{groups_here}
use Rattle.net_extract.proofs.nets.Nets.contact_groups.Goals as goal
use Rattle.net_extract.proofs.nets.Nets.contact_groups.Goals.{After-as_slice}

-- the cut is one of those with contact pieces, and with groups
here : (c : After-as_slice) → c.args.cut < length c.self.inside.contacts
here c = subst (λ (nets : NetLists). c.args.cut < length nets.contacts) (sym c.self.view_is) c.requires

listed : (c : After-as_slice) → c.args.cut < length c.self.inside.groups
listed c =
    let less = here c in
    omega (arith, AllZip-long AreGroupsOf c.self.inside.contacts c.self.inside.groups c.self.invariant.grouped)

pub bounds-as_slice-cut : goal.bounds-as_slice-cut
bounds-as_slice-cut c = rw c.as_slice.ensures (listed c)

pub returns : goal.returns
returns c =
    let before = (goal.at.returns c).After-as_slice in
    let cut = c.args.cut in
    let groups = c.self.inside.groups in
    let are : AreGroupsOf (get_or c.self.inside.contacts cut []) (groups_of groups cut) = groups_here c.self.inside.contacts groups c.self.invariant.grouped cut (here before) in
    let list_is = c.as_slice-2.ensures ∙ get_or_read groups cut c.index-as_slice-cut.result (listed before) (rw c.as_slice.ensures at c.index-as_slice-cut.is) [] in
    rw list_is (subst (λ (nets : NetLists). AreGroupsOf (contacts_of nets cut) (groups_of groups cut)) c.self.view_is are)
