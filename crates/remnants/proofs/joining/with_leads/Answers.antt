use Rattle.std.proofs.Common.{length, refl}
use Rattle.lists.proofs.Words.{slice_get_read}
use Rattle.remnants.proofs.LeaderLaws.{no_leads, leads_itself, leads_more, all_leads}
use Rattle.remnants.proofs.joining.with_leads.Goals as goal
use Rattle.remnants.proofs.joining.with_leads.Goals.{then-one-number+in_ok-push, else-one-number}

pub loop-number-init : goal.loop-number-init
loop-number-init c = no_leads _ _

pub loop-number-preserved : goal.loop-number-preserved
loop-number-preserved c =
    let links = c.args.links.items in
    let fixed = c.args.fixed.now in
    let k = c.loop-number.number in
    let one = c.index-fixed-number.result in
    let pairs = c.loop-number.pairs.items in
    let at = slice_get_read fixed (length fixed) k one refl c.loop-number-test.true c.index-fixed-number.is in
    elim c.if-one-number.branch [
      | then-one-number+in_ok-push w ↦ rw (w.pairs-is, w.in_ok-push.ensures.items) (leads_more links fixed k pairs one at c.loop-number.invariant)
      | else-one-number w ↦ rw w.pairs-is (leads_itself links fixed k pairs one at w.if-one-number.false c.loop-number.invariant)
    ]

pub returns : goal.returns
returns c = all_leads c.args.links.items c.args.fixed.now c.loop-number.number c.loop-number.pairs.items c.loop-number-test.false c.loop-number.invariant
