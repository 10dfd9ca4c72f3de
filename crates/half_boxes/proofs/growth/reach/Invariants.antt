use Rattle.std.proofs.Common.{take}
use Rattle.half_boxes.specs.inside.Growths.{Reaches}
use Rattle.half_boxes.proofs.growth.reach.Given as goal

abbrev pub invariant-loop-other : goal.invariant-loop-other
invariant-loop-other l =
    Reaches l.one (take l.other-index l.left) l.kept.items l.initial.front.items l.front.items l.initial.pairs.items l.pairs.items
