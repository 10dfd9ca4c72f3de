-- sets of half squares that are made of cells
use Rattle.geo_core.specs.declared.plane.Cell.{Cell}
use Rattle.geo_core.specs.declared.plane.Half.{Half}
use Rattle.fault_model.specs.FaultNames.{LiesIn}

-- with one half square of a cell the set has each
abbrev pub IsOfWholeCells : (Half → Type 0) → Type 0
IsOfWholeCells set = (h g : Half) (d : Cell) → LiesIn h d → LiesIn g d → set h → set g
