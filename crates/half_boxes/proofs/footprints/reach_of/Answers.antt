use Rattle.half_boxes.proofs.FootprintLaws.{reach_has}
use Rattle.half_boxes.proofs.footprints.reach_of.Goals as goal

pub returns : goal.returns
returns c h = reach_has c.args.zone c.args.side h _
    (rw (c.columns.ensures.low, c.columns.ensures.high) at (c.reached.ensures h.u)) (rw (c.rows.ensures.low, c.rows.ensures.high) at (c.reached-2.ensures h.v))
