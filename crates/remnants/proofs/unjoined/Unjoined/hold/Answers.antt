use Rattle.remnants.proofs.CutLaws.{leaders_with}
use Rattle.remnants.proofs.unjoined.Unjoined.hold.Goals as goal

pub invariant_of-result : goal.invariant_of-result
invariant_of-result c = leaders_with _ _ _ _ _ c.self.invariant
