use Rattle.net_extract.proofs.SoFarLaws.{added_next, added_all}
use Rattle.net_extract.specs.declared.pieces.ContactPiece.{ContactPiece}
use Rattle.net_extract.proofs.numbers.add_links.Goals as goal

pub loop-contact-preserved : goal.loop-contact-preserved
loop-contact-preserved c =
    added_next (λ (contact : ContactPiece). (contact.lower, contact.upper)) c.args.contacts.now c.loop-contact.contact-index _
    c.contact-item.result _ _ c.loop-contact-test.true c.contact-item.is c.loop-contact.invariant c.in_ok-push.ensures.items

pub returns : goal.returns
returns c = added_all (λ (contact : ContactPiece). (contact.lower, contact.upper)) c.args.contacts.now c.loop-contact.contact-index _ _ c.loop-contact-test.false c.loop-contact.invariant
