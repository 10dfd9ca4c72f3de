use Rattle.std.proofs.Common.{◌∙◌, refl}
use Rattle.touch_sweep.specs.inside.Strips.{begins_in}
use Rattle.touch_sweep.proofs.SearchSteps.{IsByRow-filter}
use Rattle.touch_sweep.proofs.LinkSteps.{inner_begin}
use Rattle.touch_sweep.proofs.link.part_of.Goals as goal

pub link_across-requires : goal.link_across-requires
link_across-requires c =
    let low = c.args.strip.low in let high = c.args.strip.high in
    let points_are = c.as_slice.ensures.value ∙ c.in_ok-points.ensures in
    record {
      points = IsByRow-filter (begins_in low high) c.args.points.now _ points_are c.requires.points;
      spans = c.requires.spans;
      begin = inner_begin low high c.args.points.now c.args.spans.now _ _ points_are refl;
    }
