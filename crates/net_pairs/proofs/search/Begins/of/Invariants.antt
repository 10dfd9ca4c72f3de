use Rattle.std.proofs.Common.{take, All, ◌≤ℤ◌}
use Rattle.net_pairs.proofs.search.Begins.of.Given as goal

abbrev pub invariant-loop-point : goal.invariant-loop-point
invariant-loop-point l = All (λ point. (l.begins.first ≤ℤ point.rect.x0) × (point.rect.x0 ≤ℤ l.begins.last)) (take l.point-index l.points)
