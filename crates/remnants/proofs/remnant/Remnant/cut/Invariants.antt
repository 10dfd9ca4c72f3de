use Rattle.std.proofs.Common.{drop}
use Rattle.remnants.proofs.CutLaws.{IsCutTo}
use Rattle.remnants.proofs.remnant.Remnant.cut.Given as goal

abbrev pub invariant-loop-loose : goal.invariant-loop-loose
invariant-loop-loose l = IsCutTo l.inner l.outer l.self (drop l.loose-index l.loose-items) l.cut
