use Rattle.fault_model.proofs.WindowLaws.{touch_from_window}
use Rattle.fault_model.proofs.windows.touches_stay_in_windows.Goals as goal

pub returns : goal.returns
returns g c = touch_from_window g.P.Property.holds
