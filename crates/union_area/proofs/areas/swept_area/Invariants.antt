use Rattle.union_area.proofs.areas.swept_area.Given as goal

abbrev pub ghosts-counted_area : goal.ghosts-counted_area
ghosts-counted_area a = record { name = a.blank.name; parts = a.blank.parts }
