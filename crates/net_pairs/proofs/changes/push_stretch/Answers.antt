use Rattle.std.proofs.Common.{refl, rules, w32, FitsSigned}
use Rattle.lists.proofs.Words.{to_z-of_z}
use Rattle.net_pairs.proofs.StretchLaws.{stretch_nowhere, stretch_of_nothing, stretch_there}
use Rattle.net_pairs.proofs.changes.push_stretch.Goals as goal

pub returns-then-corner-eq0 : goal.returns-then-corner-eq0
returns-then-corner-eq0 c = stretch_of_nothing _ _ _ _ c.if-corner-eq0.true

pub returns-in_ok-push : goal.returns-in_ok-push
returns-in_ok-push c =
    let fits : FitsSigned w32 c.args.end = search rules in
    let is = simp to_z-of_z at c.in-Some.ensures.some in
    rw c.in_ok-push.ensures.items (stretch_there c.args.window c.args.corner c.args.end _ _ refl refl is)

pub returns-in_default : goal.returns-in_default
returns-in_default c =
    let fits : FitsSigned w32 c.args.end = search rules in
    let never = simp to_z-of_z at c.in_default.ensures.none in
    stretch_nowhere c.args.window c.args.corner c.args.end _ never
