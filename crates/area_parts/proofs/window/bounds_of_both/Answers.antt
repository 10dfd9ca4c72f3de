use Rattle.std.proofs.Common.{subst}
use Rattle.area_parts.specs.inside.LayoutBounds.{AreBounds}
use Rattle.area_parts.proofs.laws.WindowLaws.{joined_bounds}
use Rattle.area_parts.proofs.window.bounds_of_both.Goals as goal

pub returns : goal.returns
returns c =
    λ first second p q.
    joined_bounds first second c.in-Some.a c.in-Some-other.b c.join.result c.join.ensures (subst (AreBounds first) c.in-Some.is p) (subst (AreBounds second) c.in-Some-other.is q)
