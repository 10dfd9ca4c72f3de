use Rattle.rect_cover.proofs.AgreeLaws.{covered_alike, covered_or_refused, refused_once}
use Rattle.rect_cover.proofs.laws.covers_agree.Goals as goal

pub returns : goal.returns
returns c = record { faults = refused_once; cells = covered_alike; apart = covered_or_refused }
