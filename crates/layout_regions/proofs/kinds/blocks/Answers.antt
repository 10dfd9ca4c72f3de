use Rattle.std.proofs.Common.{◌+◌, ◌/◌}
use Rattle.via_clusters.specs.Blocks.{CoversSomeBox}
use Rattle.layout_regions.proofs.RectLaws.{found_in}
use Rattle.layout_regions.proofs.kinds.blocks.Goals as goal

pub returns : goal.returns
returns c =
    let covered = CoversSomeBox c.args.boxes.now ((c.args.side + 1) / 2) in
    found_in covered c.args.window covered (λ d has. (λ t. t, λ t. t)) c.via_rects.result (rw c.covering_radius.ensures.half at c.via_rects.ensures.cells) c.via_rects.ensures.apart
