use Rattle.tile_board.proofs.board.Board.split.Given as goal

-- how many draws the new hand gets
abbrev pub ghosts-cut : goal.ghosts-cut
ghosts-cut a = record { draws = a.draws }
