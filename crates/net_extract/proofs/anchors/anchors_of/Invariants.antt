use Rattle.std.proofs.Common.{take, map, All}
use Rattle.lists.proofs.Words.{AllZip, enumerate_from}
use Rattle.map_model.specs.MapNames.{terminal_of}
use Rattle.net_extract.specs.inside.Anchoring.{IsAnchorOf, IsOnIsland}
use Rattle.net_extract.proofs.anchors.anchors_of.Given as goal

abbrev pub invariant-loop-index : goal.invariant-loop-index
invariant-loop-index l = record {
  anchors : AllZip (IsAnchorOf l.islands) (take l.index l.terminals) l.anchors.items;
  checked : All (IsOnIsland l.islands) (take l.index (enumerate_from 0 (map terminal_of l.terminals)));
}
