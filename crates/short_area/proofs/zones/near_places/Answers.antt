use Rattle.std.proofs.Common.{arith, w32, to_z, of_z, pos, ◌+ℤ◌, ◌-ℤ◌}
use Rattle.lists.proofs.Words.{ints}
use Rattle.geo_core.proofs.IntervalLaws.{clipped, clip_none}
use Rattle.short_area.proofs.Touching.{near_low, near_high}
use Rattle.short_area.proofs.zones.near_places.Goals as goal

pub returns-clause-some : goal.returns-clause-some
returns-clause-some c x =
    clipped (c.args.places.low -ℤ pos c.args.radius) (c.args.places.high +ℤ pos c.args.radius) c.args.within.low c.args.within.high _ _ x
    (near_low c.args.places c.args.within c.args.radius c.requires c.max-low.result c.max-low.ensures.value)
    (near_high c.args.places c.args.within c.args.radius c.requires c.min-high.result c.min-high.ensures.value)

pub returns-then-low-high-clause-none : goal.returns-then-low-high-clause-none
returns-then-low-high-clause-none c x h k =
    let f = c.if-low-high.true in
    clip_none (c.args.places.low -ℤ pos c.args.radius) (c.args.places.high +ℤ pos c.args.radius) c.args.within.low c.args.within.high (to_z w32 (of_z w32 c.max-low.result))
    (to_z w32 (of_z w32 c.min-high.result))
    (near_low c.args.places c.args.within c.args.radius c.requires c.max-low.result c.max-low.ensures.value)
    (near_high c.args.places c.args.within c.args.radius c.requires c.min-high.result c.min-high.ensures.value)
    (omega (arith, ints)) (x, h, k)
