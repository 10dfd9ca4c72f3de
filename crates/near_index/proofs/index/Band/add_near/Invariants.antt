use Rattle.std.proofs.Common.{take}
use Rattle.lists.proofs.Words.{flat_map}
use Rattle.near_index.specs.inside.Gaining.{GainsNear}
use Rattle.near_index.proofs.index.Band.add_near.Given as goal

abbrev pub invariant-loop-leaf : goal.invariant-loop-leaf
invariant-loop-leaf g l = GainsNear g.T.Rectangular.rect_of l.tile l.reach (flat_map (λ items. items) (take l.leaf-index l.leaf-items)) l.initial.found.items l.found.items
