use Rattle.std.proofs.Common.{◌≡◌, ◌++◌}
use Rattle.net_extract.proofs.StandingLaws.{first_clusters}
use Rattle.net_extract.proofs.metal_terminals.add_clusters.Given as goal

abbrev pub invariant-loop-cut : goal.invariant-loop-cut
invariant-loop-cut l = l.terminals.items ≡ l.initial.terminals.items ++ first_clusters l.ends l.groups l.metal l.cut
