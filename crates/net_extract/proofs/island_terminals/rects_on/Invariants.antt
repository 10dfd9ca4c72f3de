use Rattle.std.proofs.Common.{◌≡◌, take, map, filter, ◌==◌}
use Rattle.net_extract.proofs.island_terminals.rects_on.Given as goal

abbrev pub invariant-loop-piece : goal.invariant-loop-piece
invariant-loop-piece l = l.rects.items ≡ map (λ piece. piece.rect) (filter (λ piece. piece.island == l.island) (take l.piece-index l.pieces))
