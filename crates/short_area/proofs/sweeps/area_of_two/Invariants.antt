use Rattle.short_area.proofs.sweeps.area_of_two.Given as goal

abbrev pub ghosts-counted_area_of_two : goal.ghosts-counted_area_of_two
ghosts-counted_area_of_two a = record { name = a.blank.name; parts = a.blank.parts }
