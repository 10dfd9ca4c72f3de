use Rattle.lists.proofs.Words.{zip}
use Rattle.run_inputs.specs.LayoutReaders.{AreListsUpTo}
use Rattle.run_inputs.proofs.layers.layers_of.Given as goal

abbrev pub invariant-loop-number : goal.invariant-loop-number
invariant-loop-number l = AreListsUpTo (zip l.placed l.covers) l.number l.lists.items
