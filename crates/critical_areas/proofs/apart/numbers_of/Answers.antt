use Rattle.lists.proofs.Reading.{map_done, map_next}
use Rattle.geo_core.specs.declared.plane.Labelled.{Labelled}
use Rattle.critical_areas.proofs.apart.numbers_of.Goals as goal

pub loop-hull-preserved : goal.loop-hull-preserved
loop-hull-preserved c =
    map_next (λ (hull : Labelled). hull.label) c.args.hulls.now c.loop-hull.hull-index c.hull-item.result c.loop-hull.numbers.items c.push.new.self.items c.loop-hull-test.true c.hull-item.is
    c.loop-hull.invariant c.in_ok-push.ensures.items

pub returns : goal.returns
returns c = map_done (λ (hull : Labelled). hull.label) c.args.hulls.now c.loop-hull.hull-index c.loop-hull.numbers.items c.loop-hull-test.false c.loop-hull.invariant
