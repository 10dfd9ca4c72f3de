use Rattle.std.proofs.Common.{subst, sym, ◌↔◌}
use Rattle.geo_core.specs.Plane.{Has}
use Rattle.geo_core.specs.declared.axis.Axis.TheVariants.{Y}
use Rattle.fault_model.specs.FaultNames.{IsInFootprint}
use Rattle.severing.specs.Severing.{IsSevered}
use Rattle.severing.proofs.TurnedLaws.{cell_at}
use Rattle.severing.proofs.SteadyLaws.{lines_sever_alike}
use Rattle.severing.proofs.laws.steady_rows_sever_alike.Goals as goal

pub returns : goal.returns
returns c island side zone near some noted steady a b in_a in_b same =
    subst (λ i. IsSevered island (IsInFootprint a side) ↔ IsSevered island (IsInFootprint (cell_at Y b.j i) side)) same
    (lines_sever_alike Y island zone side near some noted steady a.j b.j a.i in_a (subst (λ i. Has zone (cell_at Y b.j i)) (sym same) in_b))
