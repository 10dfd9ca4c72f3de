use Rattle.std.proofs.Common.{◌≡◌, take, map}
use Rattle.net_extract.specs.declared.pieces.ContactPiece.{ContactPiece}
use Rattle.net_extract.proofs.contact_groups.rects_of.Given as goal

abbrev pub invariant-loop-contact : goal.invariant-loop-contact
invariant-loop-contact l = l.rects.items ≡ map (λ (contact : ContactPiece). contact.rect) (take l.contact-index l.contacts)
