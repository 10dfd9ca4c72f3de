use Rattle.std.proofs.Common.{◌≡◌}
use Rattle.short_area.proofs.twice.halves_of.Given as goal

abbrev pub invariant-loop-rect : goal.invariant-loop-rect
invariant-loop-rect l = l.survey ≡ l.fn.part
