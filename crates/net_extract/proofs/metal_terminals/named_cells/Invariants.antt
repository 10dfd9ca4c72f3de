use Rattle.std.proofs.Common.{◌≡◌, take}
use Rattle.net_extract.specs.Standing.{cells_standing}
use Rattle.net_extract.proofs.metal_terminals.named_cells.Given as goal

abbrev pub invariant-loop-anchor : goal.invariant-loop-anchor
invariant-loop-anchor l = l.cells.items ≡ cells_standing (take l.anchor-index l.anchors) l.metal
