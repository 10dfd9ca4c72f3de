use Rattle.lists.proofs.Reading.{map_next, map_done}
use Rattle.net_extract.specs.declared.pieces.ContactPiece.{ContactPiece}
use Rattle.net_extract.proofs.contact_groups.rects_of.Goals as goal

pub loop-contact-preserved : goal.loop-contact-preserved
loop-contact-preserved c =
    map_next (λ (contact : ContactPiece). contact.rect) c.args.contacts.now c.loop-contact.contact-index c.contact-item.result _ _
    c.loop-contact-test.true c.contact-item.is c.loop-contact.invariant c.in_ok-push.ensures.items

pub returns : goal.returns
returns c = map_done (λ (contact : ContactPiece). contact.rect) c.args.contacts.now c.loop-contact.contact-index _ c.loop-contact-test.false c.loop-contact.invariant
