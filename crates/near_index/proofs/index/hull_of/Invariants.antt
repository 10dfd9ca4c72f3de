use Rattle.std.proofs.Common.{take}
use Rattle.near_index.specs.inside.Hulls.{IsHullOf}
use Rattle.near_index.proofs.index.hull_of.Given as goal

abbrev pub invariant-loop-piece : goal.invariant-loop-piece
invariant-loop-piece g l = IsHullOf g.T.Rectangular.rect_of l.hull (take l.piece-index l.pieces)
