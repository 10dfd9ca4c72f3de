use Rattle.std.proofs.Common.{ap, ◌∙◌, ◌≡◌, arith, pos, ◌+ℤ◌}
use Rattle.lists.proofs.Words.{ints}
use Rattle.geo_core.specs.Plane.{low_along}
use Rattle.geo_core.specs.declared.axis.Axis.{Axis}
use Rattle.union_area.proofs.laws.LineLaws.{first_across, first_up}
use Rattle.union_area.proofs.CutLaws.{HasEnds}
use Rattle.union_area.proofs.parts.first_line.Goals as goal

pub returns-in-X : goal.returns-in-X
returns-in-X c =
    let window = c.args.window in
    let low : c.along-places.result.low ≡ window.x0 = c.along-places.ensures.low ∙ ap (λ (a : Axis). low_along a window) c.in-X.is in
    let ends : HasEnds c.of.result window.x0 window.y0 (window.x0 +ℤ pos 1) window.y1 = record {
      left = omega (arith, ints);
      bottom = omega (arith, ints);
      right = omega (arith, ints);
      top = omega (arith, ints);
    } in
    rw c.in-X.is (first_across window c.of.result ends)

pub returns-in-Y : goal.returns-in-Y
returns-in-Y c =
    let window = c.args.window in
    let low : c.along-places.result.low ≡ window.y0 = c.along-places.ensures.low ∙ ap (λ (a : Axis). low_along a window) c.in-Y.is in
    let ends : HasEnds c.of-in-Y.result window.x0 window.y0 window.x1 (window.y0 +ℤ pos 1) = record {
      left = omega (arith, ints);
      bottom = omega (arith, ints);
      right = omega (arith, ints);
      top = omega (arith, ints);
    } in
    rw c.in-Y.is (first_up window c.of-in-Y.result ends)
