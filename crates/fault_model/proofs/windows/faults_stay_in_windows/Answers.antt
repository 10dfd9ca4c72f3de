use Rattle.fault_model.proofs.WindowLaws.{short_in_window, open_in_window, block_in_window}
use Rattle.fault_model.proofs.windows.faults_stay_in_windows.Goals as goal

pub returns-clause-shorts : goal.returns-clause-shorts
returns-clause-shorts g c cuts m reach s window at w small = short_in_window g.L.Layout.covers reach s window at w small cuts m

pub returns-clause-opens : goal.returns-clause-opens
returns-clause-opens g c cuts m reach s window at w small = open_in_window g.L.Layout.covers reach s window at w small _ _ m

pub returns-clause-blocks : goal.returns-clause-blocks
returns-clause-blocks g c cut reach s window at w small = block_in_window g.L.Layout.covers reach s window at w small cut
