use Rattle.tile_board.proofs.board.Board.credit.Given as goal

-- what the board is made for, and the credit that is made
abbrev pub ghosts-add : goal.ghosts-add
ghosts-add a = record { limits = a.self.now.limits; credit = a.credit }
