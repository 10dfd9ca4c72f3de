use Rattle.remnants.proofs.MeetingLaws.{one_leader_shared}
use Rattle.remnants.proofs.marking.have_one_leader.Goals as goal

pub returns-then-are_at : goal.returns-then-are_at
returns-then-are_at c = λ yes. one_leader_shared c.args.marks.now c.args.terminals.now _ (c.are_at.ensures c.if-are_at.true)
