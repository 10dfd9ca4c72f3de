use Rattle.std.proofs.Common.{◌+◌, ◌*◌}
use Rattle.tile_rows.proofs.board_threads.+fn-work_in_parts-join+arg2+fn-work_in_parts-join+arg3+work_in_parts.Given as goal

-- a part has one halving less, and its closure comes between
abbrev pub decreases-join+arg2 : goal.decreases-join+arg2
decreases-join+arg2 g l = 2 * l.halvings

abbrev pub decreases-join+arg3 : goal.decreases-join+arg3
decreases-join+arg3 g l = 2 * l.halvings

abbrev pub decreases-work_in_parts : goal.decreases-work_in_parts
decreases-work_in_parts g l = 2 * l.halvings + 1
