use Rattle.std.proofs.Common.{◌≡◌, take, map}
use Rattle.net_extract.proofs.ends_of.Given as goal

abbrev pub invariant-loop-cut : goal.invariant-loop-cut
invariant-loop-cut l = l.ends.items ≡ map (λ cut. (cut.lower, cut.upper)) (take l.cut-index l.cuts)
