use Rattle.std.proofs.Common.{take}
use Rattle.geo_core.specs.Plane.{Has}
use Rattle.geo_core.specs.declared.plane.Cell.{Cell}
use Rattle.open_grid.specs.inside.ZoneCounts.{CoversNone}
use Rattle.open_grid.proofs.covering.cover_none.Given as goal

abbrev pub invariant-loop-one : goal.invariant-loop-one
invariant-loop-one l = (c : Cell) → Has l.fn.zone c → CoversNone (take l.one-index l.boxes) l.side c
