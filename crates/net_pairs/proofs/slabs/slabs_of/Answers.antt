use Rattle.std.proofs.Common.{List, subst, ◌≡◌}
use Rattle.lists.proofs.Words.{slice_eq-Decides}
use Rattle.geo_core.specs.declared.plane.Labelled.{Labelled}
use Rattle.net_pairs.specs.inside.ChangeCorners.{AreCornersOf}
use Rattle.net_pairs.proofs.CornerLaws.{corner_decides, cover_alike}
use Rattle.net_pairs.proofs.slabs.slabs_of.Goals as goal

pub returns-then-eq : goal.returns-then-eq
returns-then-eq c =
    let window = c.args.window in
    let corners = c.in_ok-corners.corners.items in
    let same : c.in_ok-corners_of.field-0.items ≡ corners = (slice_eq-Decides corner_decides _ _ _ c.eq.ensures).0 c.if-eq.true in
    let listed = subst (λ (slabs : List Labelled). AreCornersOf window slabs c.in_ok-corners_of.field-0.items) c.as_slice-2.ensures.value c.in_ok-corners_of.ensures in
    cover_alike window c.args.runs.now c.in_ok-slabs.slabs.items corners c.in_ok-corners.ensures (subst (AreCornersOf window c.in_ok-slabs.slabs.items) same listed)
