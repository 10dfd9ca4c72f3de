-- a rectangle of one cell
use Rattle.std.proofs.Common.{arith, pos}
use Rattle.lists.proofs.Words.{ints}
use Rattle.geo_core.specs.declared.plane.Rect.{Rect}

-- a rectangle of one cell, for a piece of any island
pub unit : Rect
unit = record {
  x0 = pos 0;
  y0 = pos 0;
  x1 = pos 1;
  y1 = pos 1;
  across = record { some = omega (arith, ints); least = omega (arith, ints); most = omega (arith, ints) };
  up = record { some = omega (arith, ints); least = omega (arith, ints); most = omega (arith, ints) };
}
