use Rattle.std.proofs.Common.{ℕ, suc, ◌≡◌, ◌+◌, sum, get_or}
use Rattle.lists.proofs.Words.{deque_len}
use Rattle.classes.specs.inside.Spreading.{IsSpreading}
use Rattle.classes.proofs.spread.spread.Given as goal

abbrev pub invariant-loop-number : goal.invariant-loop-number
invariant-loop-number l = record {
  same : l.fn.start ≡ l.start;
  state : (any : ℕ) × IsSpreading l.starts l.neighbours l.classes l.todo.items l.start any (get_or l.starts (suc any) 0);
}

abbrev pub decreases-loop-number : goal.decreases-loop-number
decreases-loop-number l = sum l.classes + deque_len l.todo
