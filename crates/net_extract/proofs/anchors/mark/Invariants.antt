use Rattle.std.proofs.Common.{take}
use Rattle.net_extract.specs.inside.Anchoring.{IsMarked}
use Rattle.net_extract.proofs.anchors.mark.Given as goal

abbrev pub invariant-loop-meeting : goal.invariant-loop-meeting
invariant-loop-meeting l = IsMarked l.initial.found (take l.meeting-index l.met) l.found
