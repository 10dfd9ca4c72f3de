use Rattle.std.proofs.Common.{take}
use Rattle.lists.proofs.Words.{AllZip}
use Rattle.net_extract.specs.ContactGroups.{AreGroupsOf}
use Rattle.net_extract.proofs.contact_groups.group_lists.Given as goal

abbrev pub invariant-loop-list : goal.invariant-loop-list
invariant-loop-list l = AllZip AreGroupsOf (take l.list-index l.contacts) l.groups.items
