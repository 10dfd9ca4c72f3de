-- what becomes of a zone when islands are looked at
use Rattle.std.specs.Prelude.{ℤ, pos, ℕ, List, [], Contains, All, IsTrue, Option, Some, None, Vec, length, slice_get, IsSorted, ◌<◌, ◌/◌, ◌≡◌, ◌≢◌, ◌⊎◌, ◌↔◌, ◌+ℤ◌, ◌<ℤ◌, ⊤}
use Rattle.std.specs.Ordering.{int_cmp}
use Rattle.lists.specs.Words.{Global}
use Rattle.geo_core.specs.Plane.{Has, IsInUnion, low_along, high_along}
use Rattle.geo_core.specs.declared.axis.Axis.{Axis}
use Rattle.geo_core.specs.Intervals.{IsIn, IsWithin}
use Rattle.geo_core.specs.declared.plane.Cell.{Cell}
use Rattle.geo_core.specs.declared.plane.Half.{Half}
use Rattle.geo_core.specs.declared.plane.Rect.{Rect}
use Rattle.fault_model.specs.FaultNames.{IslandLists, IsInFootprint, IsOn}
use Rattle.fault_model.specs.declared.island.Spot.{Spot}
use Rattle.half_boxes.specs.HalfBoxes.{HasHalf, HasHalfIn, IsInBoxes, LiesWithin}
use Rattle.half_boxes.specs.declared.boxes.HalfBox.{HalfBox}
use Rattle.remnants.specs.Remnants.{RemnantLists, IsSplit}
use Rattle.ring_test.specs.IslandHoles.{IsOnIsland}
use Rattle.severing.specs.Changes.{ChangesAt, IsSteady}
use Rattle.severing.specs.Severing.{IsSevered}
use Rattle.union_area.specs.WindowParts.{AreInLine, IsBetween, place_along}
use Rattle.open_grid.specs.inside.ZoneNeeds.{HasBoxOf, StandsFor, StandForAll, AllSever, SeverAlike}
use Rattle.open_grid.specs.RingCounts.{IsSomeRingMany}
use Rattle.open_grid.specs.declared.looked.Looked.{Looked}
use Rattle.open_grid.specs.declared.looked.Told.{Told}
use Rattle.open_grid.specs.declared.looked.Told.TheVariants.{Never, Always, Open}
use Rattle.open_grid.specs.declared.zones.Left.{Left}
use Rattle.open_grid.specs.declared.zones.Left.TheVariants.{Everywhere, Of}
use Rattle.open_grid.specs.declared.steps.Step.{Step}
use Rattle.open_grid.specs.declared.steps.Step.TheVariants.{Repeat, Halve}

-- the place lies inside the zone along the axis, and is not its first one
abbrev pub IsInsideAlong : Axis → Rect → ℤ → Type 0
IsInsideAlong axis zone = IsBetween (low_along axis zone) (high_along axis zone)

-- the zone has more than one place along the axis
abbrev pub HasSeveral : Axis → Rect → Type 0
HasSeveral axis zone = (low_along axis zone +ℤ pos 1) <ℤ high_along axis zone

-- the zone is one cell
pub record IsSingle (zone : Rect) : Type 0 where
  pub column : zone.x0 +ℤ pos 1 ≡ zone.x1
  pub row : zone.y0 +ℤ pos 1 ≡ zone.y1

-- the rectangle is one of some spot of the list
abbrev pub IsOfSpots : List Spot → Rect → Type 0
IsOfSpots spots rect = (spot : Spot) × Contains spots spot × Contains spot.rects rect

-- the list gains a box for each of the rectangles, and no half squares but theirs
pub record GainsBoxes (gained : Rect → Type 0) (old new : List HalfBox) : Type 0 where
  pub kept : (one : HalfBox) → Contains old one → Contains new one
  pub each : (rect : Rect) → gained rect → HasBoxOf new (IsOn (Has rect))
  pub only : (h : Half) → IsInBoxes new h → IsInBoxes old h ⊎ ((rect : Rect) × gained rect × IsOn (Has rect) h)

-- it has one for each rectangle of the island, and one for each of its spots' rectangles, all on the island
pub record HaveBoxesOf (island : IslandLists) (boxes : List HalfBox) : Type 0 where
  pub pieces : (piece : Rect) → Contains island.pieces piece → HasBoxOf boxes (IsOn (Has piece))
  pub anchors : (rect : Rect) → IsOfSpots island.anchors rect → HasBoxOf boxes (IsOn (Has rect))
  pub on_island : (h : Half) → IsInBoxes boxes h → IsOnIsland island h

-- what an island says of the zone: no defect of it parts two of the anchors; each does; or this is to be looked at
abbrev pub IsToldOf : Rect → ℕ → IslandLists → Told → Type 0
IsToldOf zone side island Never = (c : Cell) → Has zone c → IsSevered island (IsInFootprint c side) → ⊥
IsToldOf zone side island Always = (c : Cell) → Has zone c → IsSevered island (IsInFootprint c side)
IsToldOf zone side island (Open looked) = StandsFor zone side looked island

-- one cell leaves nothing to look at
abbrev pub IsToldAtOnce : Rect → Told → Type 0
IsToldAtOnce zone Never = ⊤
IsToldAtOnce zone Always = ⊤
IsToldAtOnce zone (Open looked) = IsSingle zone → ⊥

-- the islands of the list that these are looked at for have the same defects in the zone as all of it
pub record LeftStandsFor (zone : Rect) (side : ℕ) (islands : List IslandLists) (looked : List Looked) : Type 0 where
  pub others : List IslandLists
  pub among : (island : IslandLists) → Contains others island → Contains islands island
  pub stand : StandForAll zone side looked others
  pub alike : SeverAlike islands others side zone

-- what is left of islands in the zone: each defect parts some, and where this is said, the ring round one of them has many arcs
-- of an island; or these are to be looked at
abbrev pub IsLeftOf : Rect → ℕ → List IslandLists → Left → Type 0
IsLeftOf zone side islands (Everywhere many) = AllSever islands side zone × (IsTrue many → IsSomeRingMany islands zone side)
IsLeftOf zone side islands (Of looked) = LeftStandsFor zone side islands looked

-- of one cell nothing is left
abbrev pub IsDoneAtOnce : Rect → Left → Type 0
IsDoneAtOnce zone (Everywhere many) = ⊤
IsDoneAtOnce zone (Of looked) = looked ≢ [] → IsSingle zone → ⊥

-- the removal of the box, where there is one, parts two terminals of the remnant, all else being left of it
abbrev pub IsSplitWithout : RemnantLists → Option HalfBox → Type 0
IsSplitWithout remnant None = ⊥
IsSplitWithout remnant (Some core) = IsSplit remnant core

-- the box lies in the core, where there is one, or it has no half square that is at most 1 from one of the reach
abbrev pub MayNotMatter : Option HalfBox → HalfBox → HalfBox → Type 0
MayNotMatter core reach one =
    ((h : Half) → HasHalf one h → HasHalfIn core h)
    ⊎ ((h g : Half) → HasHalf one h → HasHalf reach g → IsWithin h.u g.u (pos 1) → IsWithin h.v g.v (pos 1) → ⊥)

-- the boxes of the list that may matter stay
abbrev pub KeepsNear : Option HalfBox → HalfBox → List HalfBox → List HalfBox → Type 0
KeepsNear core reach near kept = (one : HalfBox) → Contains near one → Contains kept one ⊎ MayNotMatter core reach one

-- the boxes are of the list
abbrev pub AreOf : List HalfBox → List HalfBox → Type 0
AreOf boxes kept = (one : HalfBox) → Contains kept one → Contains boxes one

-- those boxes of the list that lie in the reach stay
abbrev pub KeepsWithin : HalfBox → List HalfBox → List HalfBox → Type 0
KeepsWithin reach boxes kept = (one : HalfBox) → Contains boxes one → LiesWithin one reach → Contains kept one

-- the list gains the place, where it lies inside the zone along the axis
pub record GainsPlace (axis : Axis) (zone : Rect) (place : ℤ) (old new : List ℤ) : Type 0 where
  pub inside : All (IsInsideAlong axis zone) old → All (IsInsideAlong axis zone) new
  pub kept : (x : ℤ) → Contains old x → Contains new x
  pub gained : IsInsideAlong axis zone place → Contains new place

-- the list gains places inside the zone, and all those at which the defects change at an end of one of the boxes
pub record GainsChanges (axis : Axis) (zone : Rect) (side : ℕ) (near : List HalfBox) (old new : List ℤ) : Type 0 where
  pub inside : All (IsInsideAlong axis zone) old → All (IsInsideAlong axis zone) new
  pub kept : (x : ℤ) → Contains old x → Contains new x
  pub gained : (one : HalfBox) (x : ℤ) → Contains near one → ChangesAt axis zone side one x → Contains new x

-- places inside the zone along the axis, among which are all at which the defects change at an end of a box that is near
pub record AreChanges (axis : Axis) (zone : Rect) (side : ℕ) (looked : List Looked) (places : List ℤ) : Type 0 where
  pub inside : All (IsInsideAlong axis zone) places
  pub complete : (seen : Looked) (one : HalfBox) (x : ℤ) → Contains looked seen → Contains seen.near one
      → ChangesAt axis zone side one x → Contains places x

-- the place lies inside the zone along the axis, and is the middle one, in rising order, of places among which are all at which
-- the defects change at an end of a box that is near. Any place inside serves for the answer: this is said so that halving does not
-- go from change to change
pub record IsMiddleChange (axis : Axis) (zone : Rect) (side : ℕ) (looked : List Looked) (place : ℤ) : Type 0 where
  pub inside : IsInsideAlong axis zone place
  pub places : List ℤ
  pub changes : AreChanges axis zone side looked places
  pub rising : IsSorted int_cmp places
  pub middle : slice_get places (length places / 2) ≡ Some place

-- what comes next of a zone that is more than one cell: one line of it stands for all, of which there is more than one; or it
-- is halved at the middle one of its changes
abbrev pub IsStepOf : Rect → ℕ → List Looked → Step → Type 0
IsStepOf zone side looked (Repeat axis) =
    HasSeveral axis zone × ((seen : Looked) → Contains looked seen → IsSteady axis zone side seen.near)
IsStepOf zone side looked (Halve axis place) = IsMiddleChange axis zone side looked place

-- nothing changes along the axis, along which the zone has several places; or these are its changes, in rising order
abbrev pub IsToHalve : Axis → Rect → ℕ → List Looked → Option (Vec ℤ Global) → Type 0
IsToHalve axis zone side looked None = IsStepOf zone side looked (Repeat axis)
IsToHalve axis zone side looked (Some places) =
    AreChanges axis zone side looked places.items × IsSorted int_cmp places.items × (HasSeveral axis zone → 0 < length places.items)

-- the rectangle has all places of the zone along the axis, in the lines in which the other one has cells
pub record IsStretched (axis : Axis) (zone line rect : Rect) : Type 0 where
  pub cells : (c : Cell) → Has rect c
      ↔ (IsIn (low_along axis zone) (high_along axis zone) (place_along axis c) × ((d : Cell) × AreInLine axis c d × Has line d))

-- so do many
abbrev pub AreStretched : Axis → Rect → List Rect → List Rect → Type 0
AreStretched axis zone lines rects = (c : Cell) → IsInUnion rects c
    ↔ (IsIn (low_along axis zone) (high_along axis zone) (place_along axis c) × ((d : Cell) × AreInLine axis c d × IsInUnion lines d))
