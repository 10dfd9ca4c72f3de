use Rattle.std.proofs.Common.{◌≡◌, ◌++◌, take, map}
use Rattle.net_extract.proofs.numbers.add_links.Given as goal

abbrev pub invariant-loop-contact : goal.invariant-loop-contact
invariant-loop-contact l = l.links.items ≡ l.initial.links.items ++ map (λ contact. (contact.lower, contact.upper)) (take l.contact-index l.contacts)
