use Rattle.net_extract.proofs.AnchoredLaws.{AreFirstIslands}
use Rattle.net_extract.proofs.nets.Nets.islands.Given as goal

abbrev pub invariant-loop-number : goal.invariant-loop-number
invariant-loop-number l = AreFirstIslands l.fn.self l.groups l.fn.metal l.number-items l.number-index l.islands.items
