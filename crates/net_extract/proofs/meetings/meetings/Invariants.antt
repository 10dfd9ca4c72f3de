use Rattle.std.proofs.Common.{take}
use Rattle.net_extract.proofs.MeetingLaws.{AreMetBy}
use Rattle.net_extract.proofs.meetings.meetings.Given as goal

abbrev pub invariant-loop-a : goal.invariant-loop-a
invariant-loop-a l = AreMetBy l.lower l.upper (take l.a-index l.a-items) l.contacts.items
