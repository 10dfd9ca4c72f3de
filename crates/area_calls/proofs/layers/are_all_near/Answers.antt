use Rattle.std.proofs.Common.{All, subst}
use Rattle.lists.proofs.Reading.{All-read, All-read_all}
use Rattle.geo_core.specs.Plane.{IsInLayout}
use Rattle.area_calls.proofs.layers.are_all_near.Goals as goal

pub loop-list-preserved : goal.loop-list-preserved
loop-list-preserved c =
    All-read (All IsInLayout) c.args.lists.now c.loop-list.list-index c.list-item.result c.loop-list-test.true c.list-item.is c.loop-list.invariant
    (subst (All IsInLayout) c.as_slice.ensures (c.are_near.ensures c.if-not-are_near.false))

pub returns : goal.returns
returns c = λ done. All-read_all (All IsInLayout) c.args.lists.now c.loop-list.list-index c.loop-list-test.false c.loop-list.invariant
