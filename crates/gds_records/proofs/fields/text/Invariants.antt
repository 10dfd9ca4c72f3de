use Rattle.std.proofs.Common.{◌≡◌, ◌≤◌, length, drop, All}
use Rattle.gds_records.proofs.fields.text.Given as goal

abbrev pub invariant-loop-end : goal.invariant-loop-end
invariant-loop-end l = (l.end ≤ length l.body) × All (λ b. b ≡ 0) (drop l.end l.body)

abbrev pub decreases-loop-end : goal.decreases-loop-end
decreases-loop-end l = l.end
