use Rattle.critical_areas.proofs.PieceLaws.{near_short_is}
use Rattle.critical_areas.proofs.laws.near_pieces_decide_shorts.Goals as goal

pub returns : goal.returns
returns g c cuts metal pieces near tile reach s d are = near_short_is g.L.Layout.covers cuts metal pieces are s d near tile reach
