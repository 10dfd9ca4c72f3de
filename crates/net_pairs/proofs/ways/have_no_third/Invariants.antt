use Rattle.std.proofs.Common.{◌≡◌, ◌⊎◌, take, All}
use Rattle.geo_core.specs.declared.plane.Labelled.{Labelled}
use Rattle.net_pairs.proofs.ways.have_no_third.Given as goal

abbrev pub invariant-loop-zone : goal.invariant-loop-zone
invariant-loop-zone l = All (λ (zone : Labelled). (zone.label ≡ l.one) ⊎ (zone.label ≡ l.other)) (take l.zone-index l.zones)
