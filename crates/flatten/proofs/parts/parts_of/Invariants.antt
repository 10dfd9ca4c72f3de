use Rattle.std.proofs.Common.{take, All}
use Rattle.lists.proofs.Words.{flat_map, enumerate_from}
use Rattle.map_model.specs.MapNames.{layer_map_of}
use Rattle.flatten.specs.Structures.{references_in}
use Rattle.flatten.specs.inside.FollowedParts.{AreParts, IsKnown}
use Rattle.flatten.proofs.parts.parts_of.Given as goal

abbrev pub invariant-loop-place : goal.invariant-loop-place
invariant-loop-place l = record {
  parts : AreParts l.index (layer_map_of l.map) (take l.place (enumerate_from 0 l.structure.elements)) l.parts.items;
  known : All (IsKnown l.index) (flat_map references_in (take l.place l.structure.elements));
}
