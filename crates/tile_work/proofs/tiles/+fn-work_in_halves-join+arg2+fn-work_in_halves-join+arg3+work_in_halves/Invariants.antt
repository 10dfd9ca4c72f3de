use Rattle.std.proofs.Common.{◌+◌, ◌*◌}
use Rattle.tile_work.proofs.tiles.+fn-work_in_halves-join+arg2+fn-work_in_halves-join+arg3+work_in_halves.Given as goal

-- each half has fewer workers, and its closure comes between
abbrev pub decreases-join+arg2 : goal.decreases-join+arg2
decreases-join+arg2 g l = 2 * l.rest + 2

abbrev pub decreases-join+arg3 : goal.decreases-join+arg3
decreases-join+arg3 g l = 2 * l.half + 2

abbrev pub decreases-work_in_halves : goal.decreases-work_in_halves
decreases-work_in_halves g l = 2 * l.workers + 1
