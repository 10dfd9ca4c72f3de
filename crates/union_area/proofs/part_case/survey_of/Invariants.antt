use Rattle.std.proofs.Common.{◌≡◌}
use Rattle.union_area.proofs.part_case.survey_of.Given as goal

abbrev pub invariant-loop-rect : goal.invariant-loop-rect
invariant-loop-rect l = l.survey ≡ l.fn.part
