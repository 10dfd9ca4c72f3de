use Rattle.std.proofs.Common.{take}
use Rattle.lists.proofs.Words.{flat_map}
use Rattle.near_index.specs.inside.Gaining.{GainsNear}
use Rattle.near_index.proofs.index.NearIndex.near.Given as goal

abbrev pub invariant-loop-band : goal.invariant-loop-band
invariant-loop-band g l = GainsNear g.T.Rectangular.rect_of l.tile l.reach (flat_map (λ items. items) (take l.band-index l.band-items)) l.initial.found.items l.found.items
