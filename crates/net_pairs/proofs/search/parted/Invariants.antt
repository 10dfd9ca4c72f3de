use Rattle.std.proofs.Common.{◌≡◌, take, not, filter}
use Rattle.net_pairs.specs.inside.Meetings.{begins_before}
use Rattle.net_pairs.proofs.search.parted.Given as goal

abbrev pub invariant-loop-point : goal.invariant-loop-point
invariant-loop-point l = record {
  before : l.before.items ≡ filter (begins_before l.column.at) (take l.point-index l.points);
  behind : l.behind.items ≡ filter (λ point. not (begins_before l.column.at point)) (take l.point-index l.points);
}
