use Rattle.std.proofs.Common.{◌+◌, ◌*◌, ◌≤◌, length}
use Rattle.touch_sweep.proofs.ChainSteps.{ChainsDownTo}
use Rattle.touch_sweep.proofs.chain.chain_rest.Given as goal

abbrev pub invariant-loop-first : goal.invariant-loop-first
invariant-loop-first l = record {
  chained : ChainsDownTo l.fn.rest l.initial.own.items l.initial.others.items l.initial.pairs.items l.rest l.own.items l.others.items l.pairs.items;
  few : length l.pairs.items + length l.own.items + length l.others.items + 2 * length l.rest
      ≤ length l.initial.pairs.items + length l.initial.own.items + length l.initial.others.items + 2 * length l.fn.rest;
}

abbrev pub decreases-loop-first : goal.decreases-loop-first
decreases-loop-first l = length l.rest
