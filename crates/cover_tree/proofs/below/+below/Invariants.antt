use Rattle.std.proofs.Common.{◌+◌, ◌*◌}
use Rattle.cover_tree.proofs.below.+below.Given as goal

abbrev pub decreases-below : goal.decreases-below
decreases-below g l = 2 * l.part.level + 1

abbrev pub decreases-change_part : goal.decreases-change_part
decreases-change_part g l = 2 * l.part.level
