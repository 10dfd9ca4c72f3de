use Rattle.std.proofs.Common.{◌≡◌, length}
use Rattle.critical_areas.proofs.CountingLaws.{AreOfTile}
use Rattle.critical_areas.proofs.tiles.TilesTileJob.amounts.Given as goal

abbrev pub invariant-loop-slot : goal.invariant-loop-slot
invariant-loop-slot l = record {
  long : length l.into.items ≡ l.slot;
  amounts : AreOfTile l.self l.ticket l.slot l.into.items;
}
