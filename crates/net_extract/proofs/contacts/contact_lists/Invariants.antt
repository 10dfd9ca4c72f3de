use Rattle.net_extract.proofs.ContactLaws.{AreFirstContacts}
use Rattle.net_extract.proofs.contacts.contact_lists.Given as goal

abbrev pub invariant-loop-k : goal.invariant-loop-k
invariant-loop-k l = AreFirstContacts l.lists l.islands l.cuts l.k l.contacts.items
