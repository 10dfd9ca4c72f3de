use Rattle.std.proofs.Common.{◌≡◌, take, nat_lt, not, filter}
use Rattle.touch_sweep.proofs.across.parted.Given as goal

abbrev pub invariant-loop-entry : goal.invariant-loop-entry
invariant-loop-entry l = record {
  before : l.before.items ≡ filter (λ e. nat_lt e.number l.count) (take l.entry-index l.entries);
  behind : l.behind.items ≡ filter (λ e. not (nat_lt e.number l.count)) (take l.entry-index l.entries);
}
