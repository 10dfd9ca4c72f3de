use Rattle.std.proofs.Common.{take}
use Rattle.half_boxes.specs.inside.Scans.{Adds}
use Rattle.half_boxes.proofs.scan.add_all.Given as goal

abbrev pub invariant-loop-other : goal.invariant-loop-other
invariant-loop-other l = Adds l.entry (take l.other-index l.others) l.initial.pairs.items l.pairs.items
