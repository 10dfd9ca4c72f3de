use Rattle.std.proofs.Common.{arith, sym, subst}
use Rattle.lists.proofs.Words.{ints}
use Rattle.fault_model.specs.FaultNames.{IsWindowOf}
use Rattle.area_parts.proofs.laws.WindowLaws.{Covered, bounds_of_covered, no_window, window_from}
use Rattle.area_parts.proofs.window.window_of.Goals as goal

pub returns : goal.returns
returns c = window_from (Covered c.args.lists.now) c.in_ok-bounds.bounds _ _ c.args.reach (bounds_of_covered c.args.lists.now _ c.in_ok-bounds.ensures.0) c.grow.ensures (omega (arith, ints))

pub returns-in_err-bounds : goal.returns-in_err-bounds
returns-in_err-bounds c = subst (IsWindowOf (Covered c.args.lists.now) c.args.reach) (sym c.from_residual.ensures) (no_window c.args.lists.now c.in_err-bounds.ensures)
