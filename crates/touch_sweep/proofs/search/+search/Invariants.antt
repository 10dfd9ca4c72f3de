use Rattle.std.proofs.Common.{length}
use Rattle.touch_sweep.proofs.search.+search.Given as goal

abbrev pub decreases-search : goal.decreases-search
decreases-search l = length l.strip.splits.now
