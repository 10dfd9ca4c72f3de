use Rattle.std.proofs.Common.{◌≡◌, take, map}
use Rattle.net_extract.proofs.ContactLaws.{part_of}
use Rattle.net_extract.proofs.contacts.parts_in.Given as goal

abbrev pub invariant-loop-part : goal.invariant-loop-part
invariant-loop-part l = l.parts.items ≡ map part_of (take l.part-index l.part-items)
