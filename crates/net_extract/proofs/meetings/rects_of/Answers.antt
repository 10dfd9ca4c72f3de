use Rattle.lists.proofs.Reading.{map_next, map_done}
use Rattle.geo_core.specs.declared.plane.Labelled.{Labelled}
use Rattle.net_extract.proofs.meetings.rects_of.Goals as goal

pub loop-one-preserved : goal.loop-one-preserved
loop-one-preserved c =
    map_next (λ (one : Labelled). one.rect) c.args.labelled.now c.loop-one.one-index c.one-item.result _ _ c.loop-one-test.true c.one-item.is c.loop-one.invariant c.in_ok-push.ensures.items

pub returns : goal.returns
returns c = map_done (λ (one : Labelled). one.rect) c.args.labelled.now c.loop-one.one-index _ c.loop-one-test.false c.loop-one.invariant
