-- Names that are cited together, passed on from one place.
pub use Rattle.fault_model.specs.Areas.{Tally, IsCovered, cells_of_window, IsBoundsOf, IsWindow, IsWindowOf, cells_of, none, hit, miss}
pub use Rattle.fault_model.specs.Areas.{from, or_zero, row, range}
pub use Rattle.fault_model.specs.FaultConsequences.{IsEquivalenceOn}
pub use Rattle.fault_model.specs.Faults.{IsShort, IsViaBlock, IsOpen}
pub use Rattle.fault_model.specs.Halves.{IsOn, IsInFootprint, LiesIn, Neighbours, IsTouched, IsSwallowed, IsHalfOf}
pub use Rattle.fault_model.specs.IslandLists.{IslandLists, IsInAnchor, IsIslandOpen}
pub use Rattle.fault_model.specs.Nets.{Cut, IsSameNetOn, IsContact, Place, Joins, NetStep, along, through, IsOnMetal, NetWalk, IsSameNet}
pub use Rattle.fault_model.specs.RectChains.{IsAt, TouchAt, AreChained, IsLabelling}
pub use Rattle.fault_model.specs.Vias.{IsViasOpen}
pub use Rattle.fault_model.specs.Walks.{Walk, IsSameIsland}
