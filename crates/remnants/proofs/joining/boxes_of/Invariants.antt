use Rattle.std.proofs.Common.{◌≡◌, take, map}
use Rattle.remnants.proofs.joining.boxes_of.Given as goal

abbrev pub invariant-loop-one : goal.invariant-loop-one
invariant-loop-one l = l.boxes.items ≡ map (λ one. one.part) (take l.one-index l.fixed)
