use Rattle.std.proofs.Common.{arith, refl}
use Rattle.lists.proofs.Words.{ints}
use Rattle.geo_core.proofs.IntervalLaws.{grown, IsIn-at}
use Rattle.geo_core.proofs.interval.Interval.grow.Goals as goal

pub returns : goal.returns
returns c x =
    let near = grown c.args.self.low c.args.self.high c.args.by x c.args.self.within.some c.requires.low in (
      λ h. near.0 (IsIn-at _ _ x h (omega (arith, ints)) (omega (arith, ints)) refl),
      λ n. IsIn-at _ _ x (near.1 n) (omega (arith, ints)) (omega (arith, ints)) refl,
    )
