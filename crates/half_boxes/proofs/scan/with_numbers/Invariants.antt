use Rattle.std.proofs.Common.{length, ◌≡◌}
use Rattle.half_boxes.proofs.NumberLaws.{AreFirstNumbered}
use Rattle.half_boxes.proofs.scan.with_numbers.Given as goal

abbrev pub invariant-loop-number : goal.invariant-loop-number
invariant-loop-number l = record { numbered : AreFirstNumbered l.boxes l.number l.entries.items; as_many : length l.entries.items ≡ l.number }
