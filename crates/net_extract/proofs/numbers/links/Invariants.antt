use Rattle.std.proofs.Common.{◌≡◌, take, map}
use Rattle.lists.proofs.Words.{flat_map}
use Rattle.net_extract.proofs.numbers.links.Given as goal

abbrev pub invariant-loop-list : goal.invariant-loop-list
invariant-loop-list l = l.links.items ≡ flat_map (map (λ contact. (contact.lower, contact.upper))) (take l.list-index l.contacts)
