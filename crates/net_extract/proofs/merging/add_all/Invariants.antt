use Rattle.std.proofs.Common.{◌≡◌, ◌++◌, take, map}
use Rattle.net_extract.proofs.SlimLaws.{with_label}
use Rattle.net_extract.proofs.merging.add_all.Given as goal

abbrev pub invariant-loop-rect : goal.invariant-loop-rect
invariant-loop-rect l = l.slim.items ≡ l.initial.slim.items ++ map (with_label l.label) (take l.rect-index l.rects)
