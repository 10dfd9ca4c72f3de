use Rattle.std.proofs.Common.{arith, rules, w32, FitsSigned, ◌≡◌, ◌≤ℤ◌}
use Rattle.lists.proofs.Words.{ints, to_z-of_z}
use Rattle.net_pairs.proofs.StretchLaws.{follows_behind, follows_elsewhere}
use Rattle.net_pairs.proofs.changes.follow.Goals as goal

pub returns-then-last-corner : goal.returns-then-last-corner
returns-then-last-corner c =
    let fits : FitsSigned w32 c.args.window.x1 = search rules in
    let gains = simp to_z-of_z at c.in_ok-push_stretch.ensures in
    follows_elsewhere _ _ _ _ _ gains

pub returns : goal.returns
returns c =
    let fits : FitsSigned w32 c.args.corner.column = search rules in
    let gains = simp to_z-of_z at c.in_ok-push_stretch-2.ensures in
    let own : c.args.last.label ≡ c.args.corner.label = omega arith in
    let level : c.args.last.row ≡ c.args.corner.row = omega (arith, ints) in
    let behind : c.args.last.column ≤ℤ c.args.corner.column = omega (arith, ints) in
    follows_behind _ _ _ _ _ own level behind gains
