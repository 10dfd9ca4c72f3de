use Rattle.std.proofs.Common.{take, All}
use Rattle.geo_core.specs.Plane.{IsIn}
use Rattle.touch_sweep.proofs.strip.Strip.around.Given as goal

abbrev pub invariant-loop-entry : goal.invariant-loop-entry
invariant-loop-entry l = All (λ e. IsIn l.low l.high e.rect.x0) (take l.entry-index l.entries)
