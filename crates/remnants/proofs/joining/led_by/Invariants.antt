use Rattle.remnants.proofs.LeaderLaws.{AreLedTo}
use Rattle.remnants.proofs.joining.led_by.Given as goal

abbrev pub invariant-loop-number : goal.invariant-loop-number
invariant-loop-number l = AreLedTo l.fixed l.leaders l.number l.led.items
