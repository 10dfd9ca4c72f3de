use Rattle.std.proofs.Common.{◌≡◌, take, true, All}
use Rattle.net_extract.specs.ContactGroups.{carries_both}
use Rattle.net_extract.proofs.contact_groups.front_of.Given as goal

abbrev pub invariant-loop-k : goal.invariant-loop-k
invariant-loop-k l = All (λ contact. carries_both l.first.lower l.first.upper contact ≡ true) (take l.k l.sorted)
