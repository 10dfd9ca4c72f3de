use Rattle.std.proofs.Common.{◌≡◌}
use Rattle.lists.proofs.Words.{IfOk-weaker}
use Rattle.geo_core.specs.declared.plane.Cell.{Cell}
use Rattle.skyline_runs.specs.Depths.{depth_of}
use Rattle.union_area.specs.PartRects.{AreClipped}
use Rattle.union_area.proofs.laws.ClipLaws.{clipped_joined}
use Rattle.short_area.proofs.twice.joined_in.Goals as goal

pub returns : goal.returns
returns c =
    let inside = c.in_ok-inside.inside.items in
    IfOk-weaker c.joined.result (λ joined. (d : Cell) → depth_of joined.items d ≡ depth_of inside d) (λ joined. AreClipped c.args.rects.now c.args.part joined.items)
    (λ joined. clipped_joined c.args.rects.now c.args.part inside c.in_ok-inside.ensures joined.items) c.joined.ensures.depths
