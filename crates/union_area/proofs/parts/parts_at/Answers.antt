use Rattle.std.proofs.Common.{ap, ◌∙◌, ◌≡◌, arith}
use Rattle.lists.proofs.Words.{ints}
use Rattle.geo_core.specs.Plane.{low_along, high_along}
use Rattle.geo_core.specs.declared.axis.Axis.{Axis}
use Rattle.geo_core.specs.declared.axis.Axis.TheVariants.{X, Y}
use Rattle.union_area.proofs.CutLaws.{HasEnds, cut_across, cut_up, parts_of_cut}
use Rattle.union_area.proofs.parts.parts_at.Goals as goal

pub returns-in-X : goal.returns-in-X
returns-in-X c =
    let window = c.args.window in
    let low : c.along-places.result.low ≡ window.x0 = c.along-places.ensures.low ∙ ap (λ (a : Axis). low_along a window) c.in-X.is in
    let high : c.along-places.result.high ≡ window.x1 = c.along-places.ensures.high ∙ ap (λ (a : Axis). high_along a window) c.in-X.is in
    let first : HasEnds c.of.result window.x0 window.y0 c.args.place window.y1 = record {
      left = omega (arith, ints);
      bottom = omega (arith, ints);
      right = omega (arith, ints);
      top = omega (arith, ints);
    } in
    let second : HasEnds c.of-in-X.result c.args.place window.y0 window.x1 window.y1 = record {
      left = omega (arith, ints);
      bottom = omega (arith, ints);
      right = omega (arith, ints);
      top = omega (arith, ints);
    } in
    let cut = cut_across window _ _ c.args.place (rw c.in-X.is at c.requires) first second in
    rw c.in-X.is (record { parts = parts_of_cut X c.args.place window _ _ cut; cut = cut })

pub returns-in-Y : goal.returns-in-Y
returns-in-Y c =
    let window = c.args.window in
    let low : c.along-places.result.low ≡ window.y0 = c.along-places.ensures.low ∙ ap (λ (a : Axis). low_along a window) c.in-Y.is in
    let high : c.along-places.result.high ≡ window.y1 = c.along-places.ensures.high ∙ ap (λ (a : Axis). high_along a window) c.in-Y.is in
    let first : HasEnds c.of-in-Y.result window.x0 window.y0 window.x1 c.args.place = record {
      left = omega (arith, ints);
      bottom = omega (arith, ints);
      right = omega (arith, ints);
      top = omega (arith, ints);
    } in
    let second : HasEnds c.of-in-Y-2.result window.x0 c.args.place window.x1 window.y1 = record {
      left = omega (arith, ints);
      bottom = omega (arith, ints);
      right = omega (arith, ints);
      top = omega (arith, ints);
    } in
    let cut = cut_up window _ _ c.args.place (rw c.in-Y.is at c.requires) first second in
    rw c.in-Y.is (record { parts = parts_of_cut Y c.args.place window _ _ cut; cut = cut })
