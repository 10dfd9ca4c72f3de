use Rattle.std.proofs.Common.{take, All}
use Rattle.lists.proofs.Words.{flat_map}
use Rattle.map_model.specs.MapNames.{layer_map_of}
use Rattle.flatten.specs.Structures.{references_among}
use Rattle.flatten.specs.inside.FollowedParts.{AreNodes, IsKnown}
use Rattle.flatten.proofs.parts.nodes_of.Given as goal

abbrev pub invariant-loop-structure : goal.invariant-loop-structure
invariant-loop-structure l = record {
  nodes : AreNodes l.index (layer_map_of l.map) (take l.structure-index l.structures) l.nodes.items;
  known : All (IsKnown l.index) (flat_map (λ structure. references_among structure.elements) (take l.structure-index l.structures));
}
