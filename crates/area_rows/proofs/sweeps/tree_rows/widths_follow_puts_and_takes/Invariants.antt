use Rattle.area_rows.proofs.sweeps.tree_rows.widths_follow_puts_and_takes.Given as goal

abbrev pub ghosts-counted_widths : goal.ghosts-counted_widths
ghosts-counted_widths g a = record { name = a.blank.name; parts = a.blank.parts }
