use Rattle.area_rows.proofs.sweeps.step_rows.sweeps_over_two_take_few_steps.Given as goal

abbrev pub ghosts-are_counted : goal.ghosts-are_counted
ghosts-are_counted g a = record { name = a.blank.name; parts = a.blank.parts }
