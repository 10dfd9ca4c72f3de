use Rattle.std.proofs.Common.{◌≡◌, take, All}
use Rattle.net_extract.proofs.merging.front_of.Given as goal

abbrev pub invariant-loop-k : goal.invariant-loop-k
invariant-loop-k l = All (λ one. one.label ≡ l.first.label) (take l.k l.rects)
