use Rattle.std.proofs.Common.{◌≡◌, take}
use Rattle.lists.proofs.Words.{zip}
use Rattle.run_inputs.specs.LayoutReaders.{rects_on}
use Rattle.run_inputs.proofs.layers.rects_on.Given as goal

abbrev pub invariant-loop-k : goal.invariant-loop-k
invariant-loop-k l = l.rects.items ≡ rects_on l.number (take l.k (zip l.placed l.covers))
