use Rattle.std.proofs.Common.{◌≡◌, ◌+◌, ◌≤◌, sum, get_or}
use Rattle.lists.proofs.Words.{deque_len}
use Rattle.classes.specs.inside.Spreading.{IsSpreading}
use Rattle.classes.proofs.spread.reach.Given as goal

abbrev pub invariant-loop-place : goal.invariant-loop-place
invariant-loop-place l = record {
  marked : get_or l.classes l.number 0 ≡ l.class;
  state : IsSpreading l.starts l.neighbours l.classes l.todo.items l.class l.number l.place;
  fewer : sum l.classes + deque_len l.todo ≤ sum l.fn.classes + deque_len l.fn.todo;
}
