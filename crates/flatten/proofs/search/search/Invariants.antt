use Rattle.flatten.specs.inside.Surveys.{KeepsDone}
use Rattle.flatten.specs.inside.Searches.{IsSearch, steps_left}
use Rattle.flatten.proofs.search.search.Given as goal

abbrev pub invariant-loop-one : goal.invariant-loop-one
invariant-loop-one l = record {
  search : IsSearch l.nodes l.root l.states l.stack.items;
  kept : KeepsDone l.fn.states l.states;
}

abbrev pub decreases-loop-one : goal.decreases-loop-one
decreases-loop-one l = steps_left l.states l.stack.items
