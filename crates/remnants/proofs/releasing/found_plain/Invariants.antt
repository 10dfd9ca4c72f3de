use Rattle.std.proofs.Common.{Contains}
use Rattle.half_boxes.specs.declared.boxes.HalfBox.{HalfBox}
use Rattle.remnants.specs.inside.Releasing.{plain}
use Rattle.remnants.proofs.releasing.found_plain.Given as goal

abbrev pub invariant-loop-one : goal.invariant-loop-one
invariant-loop-one l = (box : HalfBox) → Contains l.boxes.items box → Contains l.loose (plain box)
