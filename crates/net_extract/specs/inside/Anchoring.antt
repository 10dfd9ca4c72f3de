-- on which islands terminals stand
use Rattle.std.specs.Prelude.{ℕ, List, Contains, Option, Some, None, length, slice_get, ◌<◌, ◌≡◌, ◌⊎◌, option_to_list}
use Rattle.geo_core.specs.Plane.{Has}
use Rattle.geo_core.specs.declared.plane.Cell.{Cell}
use Rattle.geo_core.specs.declared.plane.Labelled.{Labelled}
use Rattle.geo_core.specs.declared.plane.Rect.{Rect}
use Rattle.map_model.specs.declared.layers.Terminal.{Terminal}
use Rattle.lists.specs.Differing.{AreDifferent}
use Rattle.net_extract.specs.Standing.{groups_of}
use Rattle.net_extract.specs.inside.LabelledCells.{HasLabelled}
use Rattle.net_extract.specs.inside.Numbering.{islands_on}
use Rattle.net_extract.specs.declared.pieces.Anchor.{Anchor}
use Rattle.net_extract.specs.declared.pieces.ContactGroup.{ContactGroup}
use Rattle.net_extract.specs.declared.pieces.ContactPiece.{ContactPiece}
use Rattle.net_extract.specs.declared.metal_terminals.MetalTerminal.{MetalTerminal}
use Rattle.net_extract.specs.declared.metal_terminals.MetalTerminal.TheVariants.{Named, Group}
use Rattle.net_extract.specs.declared.metal_terminals.Standing.{Standing}

-- the terminal with this number is the cell, on the metal
pub record IsTerminalAt (terminals : List Terminal) (metal number : ℕ) (c : Cell) : Type 0 where
  pub terminal : Terminal
  pub numbered : slice_get terminals number ≡ Some terminal
  pub on_metal : terminal.metal ≡ metal
  pub at : terminal.cell ≡ c

-- the rectangles are the cells of the metal's terminals, labelled by the numbers of these; a cell that no rectangle can
-- have is left out
pub record AreTerminalsOn (terminals : List Terminal) (metal : ℕ) (cells : List Labelled) : Type 0 where
  pub sound : (number : ℕ) (c : Cell) → HasLabelled cells number c → IsTerminalAt terminals metal number c
  pub complete : (number : ℕ) (c : Cell) (rect : Rect) → IsTerminalAt terminals metal number c → Has rect c → HasLabelled cells number c

-- the same for one terminal with its number
pub record IsTerminalOn (terminal : Terminal) (number metal : ℕ) (cell : Option Labelled) : Type 0 where
  pub sound : (label : ℕ) (c : Cell) → HasLabelled (option_to_list cell) label c →
      (label ≡ number) × (terminal.metal ≡ metal) × (terminal.cell ≡ c)
  pub complete : (rect : Rect) → terminal.metal ≡ metal → Has rect terminal.cell → HasLabelled (option_to_list cell) number terminal.cell

-- the number, by which terminals go on the lower side of meetings, meets the island
pub record Meets (met : List ContactPiece) (number island : ℕ) : Type 0 where
  pub meeting : ContactPiece
  pub among : Contains met meeting
  pub lower_is : meeting.lower ≡ number
  pub upper_is : meeting.upper ≡ island

-- each number that meets an island has such an island now, and the others have what they had
pub record IsMarked (old : List (Option ℕ)) (met : List ContactPiece) (new : List (Option ℕ)) : Type 0 where
  pub one_each : length new ≡ length old
  pub sound : (number island : ℕ) → slice_get new number ≡ Some (Some island) →
      (slice_get old number ≡ Some (Some island)) ⊎ Meets met number island
  pub had_none : (number : ℕ) → slice_get new number ≡ Some None → slice_get old number ≡ Some None
  pub meets_none : (number island : ℕ) → slice_get new number ≡ Some None → Meets met number island → ⊥

-- for each terminal the island on which it stands, where it stands on one; of terminals on other metals than the first
-- so many it may be left open
pub record AreFound (terminals : List Terminal) (islands : List (List Labelled)) (metals : ℕ) (found : List (Option ℕ)) : Type 0 where
  pub one_each : length found ≡ length terminals
  pub on_island : (number island : ℕ) (terminal : Terminal) →
      slice_get terminals number ≡ Some terminal → slice_get found number ≡ Some (Some island) →
      HasLabelled (islands_on islands terminal.metal) island terminal.cell
  pub on_none : (number island : ℕ) (terminal : Terminal) →
      slice_get terminals number ≡ Some terminal → slice_get found number ≡ Some None → terminal.metal < metals →
      HasLabelled (islands_on islands terminal.metal) island terminal.cell → ⊥

-- the terminal as an anchor of an island on which it stands
pub record IsAnchorOf (islands : List (List Labelled)) (terminal : Terminal) (anchor : Anchor) : Type 0 where
  pub metal : anchor.metal ≡ terminal.metal
  pub cell : anchor.cell ≡ terminal.cell
  pub on_island : HasLabelled (islands_on islands terminal.metal) anchor.island terminal.cell

-- a terminal with its number: its cell lies on an island of its metal
abbrev pub IsOnIsland : List (List Labelled) → ℕ × (ℕ × Cell) → Type 0
IsOnIsland islands numbered = (i : ℕ) × HasLabelled (islands_on islands numbered.1.0) i numbered.1.1

-- some rectangle has the cell
abbrev pub MayBeCovered : Cell → Type 0
MayBeCovered cell = (rect : Rect) × Has rect cell

-- the terminal has a spot: its cell may be covered, or its group is one of the groups
abbrev pub IsThere : List (List ContactGroup) → MetalTerminal → Type 0
IsThere groups (Named cell) = MayBeCovered cell
IsThere groups (Group cut number) = (cut < length groups) × (number < length (groups_of groups cut))

-- different numbers, among which are those of all islands on which the terminals stand
pub record AreDifferentCarried (terminals : List Standing) (numbers : List ℕ) : Type 0 where
  pub different : AreDifferent numbers
  pub all : (standing : Standing) → Contains terminals standing → Contains numbers standing.island
