use Rattle.std.proofs.Common.{sym}
use Rattle.open_grid.proofs.BoxLaws.{has_first, hull_all, hull_more, hull_one}
use Rattle.open_grid.proofs.boxes.hull_of.Goals as goal

pub loop-rect-init : goal.loop-rect-init
loop-rect-init c = (
  c.index-rects-0.result,
  (0, rw c.as_slice-rects.ensures (has_first c.args.spot.now.rects c.args.spot.now.some), sym c.index-rects-0.is),
  hull_one c.index-rects-0.result c.of_rect-hull.result c.of_rect-hull.ensures,
)

pub loop-rect-preserved : goal.loop-rect-preserved
loop-rect-preserved c =
    let (first, among, hull) = c.loop-rect.invariant in (
      first,
      among,
      hull_more first c.as_slice-rects.result.now c.loop-rect.rect-index c.rect-item.result c.loop-rect.hull c.of_rect.result c.join-hull.result c.loop-rect-test.true c.rect-item.is
          c.of_rect.ensures c.join-hull.ensures hull,
    )

pub returns : goal.returns
returns c =
    let (first, among, hull) = c.loop-rect.invariant in
    rw (sym c.as_slice-rects.ensures) (hull_all first c.as_slice-rects.result.now c.loop-rect.rect-index c.loop-rect.hull c.loop-rect-test.false among hull)
