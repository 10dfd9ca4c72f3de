use Rattle.std.proofs.Common.{◌≡◌, take}
use Rattle.lists.proofs.Words.{flat_map}
use Rattle.depth_sweep.specs.inside.Events.{ends_of}
use Rattle.depth_sweep.proofs.events.all_ends.Given as goal

abbrev pub invariant-loop-bar : goal.invariant-loop-bar
invariant-loop-bar l = l.events.items ≡ flat_map ends_of (take l.bar-index l.bars)
