use Rattle.std.proofs.Common.{take}
use Rattle.lists.proofs.Words.{AllZip}
use Rattle.fault_model.specs.declared.island.Spot.{Spot}
use Rattle.open_grid.specs.inside.ZoneNeeds.{IsHullOf}
use Rattle.open_grid.proofs.boxes.anchor_boxes.Given as goal

abbrev pub invariant-loop-spot : goal.invariant-loop-spot
invariant-loop-spot l = AllZip (λ (spot : Spot). IsHullOf spot.rects) (take l.spot-index l.spots) l.hulls.items
