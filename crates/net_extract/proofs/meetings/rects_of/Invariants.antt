use Rattle.std.proofs.Common.{◌≡◌, take, map}
use Rattle.net_extract.proofs.meetings.rects_of.Given as goal

abbrev pub invariant-loop-one : goal.invariant-loop-one
invariant-loop-one l = l.rects.items ≡ map (λ one. one.rect) (take l.one-index l.labelled)
