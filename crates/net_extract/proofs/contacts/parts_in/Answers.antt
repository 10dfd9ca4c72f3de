use Rattle.std.proofs.Common.{◌∙◌, ap, map, take_all}
use Rattle.lists.proofs.Reading.{map_next}
use Rattle.net_extract.proofs.ContactLaws.{part_of, parts_are}
use Rattle.net_extract.proofs.contacts.parts_in.Goals as goal

pub loop-part-preserved : goal.loop-part-preserved
loop-part-preserved c =
    map_next part_of c.deref-part-items.result.now c.loop-part.part-index c.part-item.result _ _ c.loop-part-test.true c.part-item.is c.loop-part.invariant c.in_ok-push.ensures.items

pub returns : goal.returns
returns c =
    let all = take_all c.loop-part.part-index c.deref-part-items.result.now c.loop-part-test.false ∙ c.deref-part-items.ensures.value in
    parts_are c.args.cut.now c.args.rects.now c.deref.result.now _ c.in_ok-met.met.items (c.deref.ensures.value ∙ c.in_ok-cut.ensures) c.in_ok-met.ensures.exact (c.loop-part.invariant
    ∙ ap (map part_of) all)
