use Rattle.critarea_core.proofs.laws.OddSideLaws.{cells_open_alike, vias_open_alike}
use Rattle.critarea_core.proofs.laws.odd_sides_open_as_the_next.Goals as goal

pub returns-clause-cells : goal.returns-clause-cells
returns-clause-cells g c m = cells_open_alike (g.L.Layout.covers m) g.T.Property.holds

pub returns-clause-vias : goal.returns-clause-vias
returns-clause-vias g c cuts = vias_open_alike g.L.Layout.covers cuts g.T.Property.holds
