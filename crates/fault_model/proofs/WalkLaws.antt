-- the covered half squares fall into islands
use Rattle.paths.specs.Paths.{stay}
use Rattle.paths.proofs.PathLaws.{first, last, append}
use Rattle.geo_core.specs.declared.plane.Cell.{Cell}
use Rattle.fault_model.specs.FaultNames.{IsOn, IsSameIsland, IsEquivalenceOn}
use Rattle.fault_model.proofs.LineLaws.{Walk-reverse}

pub islands_are_classes : (covered : Cell → Type 0) → IsEquivalenceOn (IsOn covered) (IsSameIsland covered)
islands_are_classes covered = record {
  reflexive = λ p on. stay on;
  symmetric = λ p q w. Walk-reverse w;
  transitive = λ p q r. append;
  no_others = λ p q w. (first w, last w);
}
