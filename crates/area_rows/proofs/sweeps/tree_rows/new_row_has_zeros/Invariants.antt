use Rattle.area_rows.proofs.sweeps.tree_rows.new_row_has_zeros.Given as goal

abbrev pub ghosts-node_of_new_row : goal.ghosts-node_of_new_row
ghosts-node_of_new_row g a = record { name = a.blank.name; parts = a.blank.parts }
