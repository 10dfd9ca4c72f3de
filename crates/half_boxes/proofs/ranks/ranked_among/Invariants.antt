use Rattle.std.proofs.Common.{take}
use Rattle.lists.proofs.Words.{AllZip}
use Rattle.half_boxes.specs.inside.Ranks.{IsRankedBox}
use Rattle.half_boxes.proofs.ranks.ranked_among.Given as goal

abbrev pub invariant-loop-one : goal.invariant-loop-one
invariant-loop-one l = AllZip (IsRankedBox l.columns l.rows) (take l.one-index l.boxes) l.rects.items
