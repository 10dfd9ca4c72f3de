use Rattle.std.proofs.Common.{◌≡◌, ◌++◌}
use Rattle.net_extract.proofs.StandingLaws.{first_groups}
use Rattle.net_extract.proofs.metal_terminals.add_groups.Given as goal

abbrev pub invariant-loop-number : goal.invariant-loop-number
invariant-loop-number l = l.terminals.items ≡ l.initial.terminals.items ++ first_groups l.metal l.ends l.cut l.groups l.number
