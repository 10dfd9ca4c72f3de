-- walks from one half square to another, and islands
use Rattle.geo_core.specs.declared.plane.Cell.{Cell}
use Rattle.geo_core.specs.declared.plane.Half.{Half}
use Rattle.fault_model.specs.Halves.{IsOn, Neighbours}
use Rattle.paths.specs.Paths.{Path}

-- a path through the set, from neighbour to neighbour
abbrev pub Walk : (Half → Type 0) → Half → Half → Type 0
Walk S = Path S Neighbours

-- a walk through what is covered joins the two half squares
abbrev pub IsSameIsland : (Cell → Type 0) → Half → Half → Type 0
IsSameIsland covered = Walk (IsOn covered)
