use Rattle.tile_board.proofs.board.Board.draw.Given as goal

-- what the board is made for
abbrev pub ghosts-draw_number : goal.ghosts-draw_number
ghosts-draw_number a = record { limits = a.self.now.limits }
