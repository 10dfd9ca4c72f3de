use Rattle.lists.proofs.Reading.{All-read, All-read_all}
use Rattle.geo_core.specs.Plane.{IsInLayout}
use Rattle.explanation.proofs.covered.are_near.Goals as goal

pub loop-rect-preserved : goal.loop-rect-preserved
loop-rect-preserved c =
    All-read IsInLayout c.args.rects.now c.loop-rect.rect-index c.rect-item.result c.loop-rect-test.true c.rect-item.is c.loop-rect.invariant (c.is_near.ensures (c.if-not-is_near.false))

pub returns : goal.returns
returns c = λ done. All-read_all IsInLayout c.args.rects.now c.loop-rect.rect-index c.loop-rect-test.false c.loop-rect.invariant
