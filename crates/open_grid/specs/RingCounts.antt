-- what a count of searches in a window rests on
use Rattle.std.specs.Prelude.{ℕ, List, Contains}
use Rattle.geo_core.specs.Plane.{Has}
use Rattle.geo_core.specs.declared.plane.Cell.{Cell}
use Rattle.geo_core.specs.declared.plane.Rect.{Rect}
use Rattle.fault_model.specs.FaultNames.{IslandLists}
use Rattle.ring_test.specs.Rings.{hole_at}
use Rattle.ring_test.specs.RingAnswers.{IsRingAnswer}
use Rattle.ring_test.specs.declared.answers.RingAnswer.TheVariants.{Many}

-- at some cell of the window the answer of the ring round the defect of this side is `Many` for some island of the list
pub record IsSomeRingMany (islands : List IslandLists) (window : Rect) (side : ℕ) : Type 0 where
  pub island : IslandLists
  pub among : Contains islands island
  pub cell : Cell
  pub in_window : Has window cell
  pub many : IsRingAnswer island (hole_at cell side) Many
