use Rattle.via_clusters.proofs.BoundLaws.{covered_alike}
use Rattle.via_clusters.proofs.laws.defects_cover_bounds.Goals as goal

pub returns : goal.returns
returns g c s box cell member some bounds is = covered_alike g.P.Property.holds box bounds member is s cell some
