use Rattle.std.proofs.Common.{◌+◌, ◌<◌, ◌∙◌, [], length, get_or, refl, sym, subst, arith}
use Rattle.lists.proofs.Words.{get_or_read, slice_get_read}
use Rattle.map_model.specs.MapNames.{JoinsMetals}
use Rattle.net_extract.specs.inside.LabelledCells.{AreContactsOf}
use Rattle.net_extract.proofs.ContactLaws.{no_cuts, all_cuts, one_cut_more}
use Rattle.net_extract.proofs.contacts.contact_lists.Goals as goal

pub loop-k-init : goal.loop-k-init
loop-k-init c = rw c.new-contacts.ensures.items (no_cuts c.args.lists.now c.args.islands.now c.args.cuts.now)

pub loop-k-preserved : goal.loop-k-preserved
loop-k-preserved c =
    let lists = c.args.lists.now in
    let islands = c.args.islands.now in
    let cuts = c.args.cuts.now in
    let k = c.loop-k.k in
    let cut = c.index-cuts-k.result in
    let new = c.in_ok-contacts_in.field-0 in
    let joins = subst (JoinsMetals (length islands)) (sym c.index-cuts-k.is) (c.requires.cuts_join k cut c.loop-k-test.true) in
    let one_each = c.requires.one_each in
    let listed : length islands + k < length lists = omega arith in
    let rects_are = c.as_slice-rects.ensures ∙ get_or_read lists (length islands + k) c.index-lists-islands.result listed c.index-lists-islands.is [] in
    let lower_are = c.as_slice-lower.ensures ∙ get_or_read islands cut.lower c.index-islands-cut.result joins.lower c.index-islands-cut.is [] in
    let upper_are = c.as_slice-upper.ensures ∙ get_or_read islands cut.upper c.index-islands-cut-in-loop-k.result joins.upper c.index-islands-cut-in-loop-k.is [] in
    let exact : AreContactsOf c.as_slice-rects.result.now c.as_slice-lower.result.now c.as_slice-upper.result.now new = c.in_ok-contacts_in.ensures.exact in
    rw c.in_ok-push.ensures.items (one_cut_more lists islands cuts k c.loop-k.contacts.items cut new c.loop-k.invariant
    (slice_get_read cuts (length cuts) k cut refl c.loop-k-test.true c.index-cuts-k.is)
    (subst (λ rects. AreContactsOf rects (get_or islands cut.lower []) (get_or islands cut.upper []) new) rects_are
    (subst (λ lower. AreContactsOf c.as_slice-rects.result.now lower (get_or islands cut.upper []) new) lower_are
    (subst (λ upper. AreContactsOf c.as_slice-rects.result.now c.as_slice-lower.result.now upper new) upper_are exact))) c.in_ok-contacts_in.ensures.once)

pub returns : goal.returns
returns c = rw c.from_vec.ensures (all_cuts c.args.lists.now c.args.islands.now c.args.cuts.now c.loop-k.k _ (omega arith) c.loop-k.invariant)
