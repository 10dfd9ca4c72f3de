use Rattle.std.proofs.Common.{◌≡◌, arith, of_z, subst, to_z, w32}
use Rattle.lists.proofs.Words.{ints}
use Rattle.geo_core.specs.Plane.{low_along, high_along}
use Rattle.short_area.specs.inside.AreaSteps.{IsNoNearer}
use Rattle.short_area.proofs.PlaceLaws.{edges_all, edges_more}
use Rattle.short_area.proofs.places.central_edge.Goals as goal

pub loop-zone-preserved : goal.loop-zone-preserved
loop-zone-preserved c =
    let axis = c.args.axis in let places = c.args.places in let zone = c.zone-item.result in
    let edges = c.along-edges.result in let within = edges.within in
    let low : to_z w32 (of_z w32 edges.low) ≡ low_along axis zone.rect = omega (arith, ints) in
    let high : to_z w32 (of_z w32 edges.high) ≡ high_along axis zone.rect = omega (arith, ints) in
    let first = c.more_central-nearest.ensures in let second = c.more_central-nearest-in-loop-zone.ensures in
    record {
      within = second.within;
      central = edges_more axis places.low places.high c.args.zones.now c.loop-zone.zone-index zone c.loop-zone.nearest
          c.more_central-nearest-in-loop-zone.result c.loop-zone-test.true c.zone-item.is c.loop-zone.invariant.central (λ edge was. second.kept edge (first.kept edge was))
          (second.kept (low_along axis zone.rect)
          (subst (IsNoNearer places.low places.high c.more_central-nearest.result) low first.one_more))
          (subst (IsNoNearer places.low places.high c.more_central-nearest-in-loop-zone.result) high second.one_more);
    }

pub returns-clause-central : goal.returns-clause-central
returns-clause-central c =
    edges_all c.args.axis c.args.places.low c.args.places.high c.args.zones.now c.loop-zone.zone-index c.loop-zone.nearest
    c.loop-zone-test.false c.loop-zone.invariant.central
