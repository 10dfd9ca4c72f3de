use Rattle.lists.proofs.Words.{btree_map_len}
use Rattle.net_pairs.proofs.slabs.Slabs.finish.Given as goal

abbrev pub invariant-loop-begin : goal.invariant-loop-begin
invariant-loop-begin l = Unit {0}

abbrev pub decreases-loop-begin : goal.decreases-loop-begin
decreases-loop-begin l = btree_map_len l.stretches
