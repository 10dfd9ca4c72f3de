use Rattle.flatten.specs.inside.Searches.{IsDoneBefore}
use Rattle.flatten.proofs.search.next_undone.Given as goal

abbrev pub invariant-loop-place : goal.invariant-loop-place
invariant-loop-place l = IsDoneBefore l.states l.parts l.place
