use Rattle.net_pairs.proofs.BesideLaws.{not_true}
use Rattle.net_pairs.proofs.beside.meets_other.Goals as goal

pub returns : goal.returns
returns c f o = absurd (not_true _ (c.overlaps.ensures.1 o) f)
