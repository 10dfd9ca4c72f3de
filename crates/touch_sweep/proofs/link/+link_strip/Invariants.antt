use Rattle.std.proofs.Common.{length}
use Rattle.touch_sweep.proofs.link.+link_strip.Given as goal

abbrev pub decreases-link_strip : goal.decreases-link_strip
decreases-link_strip l = length l.strip.splits.now
