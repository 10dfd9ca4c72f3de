use Rattle.net_extract.proofs.TerminalLaws.{AreFirstTerminalsOn}
use Rattle.net_extract.proofs.anchors.terminals_on.Given as goal

abbrev pub invariant-loop-number : goal.invariant-loop-number
invariant-loop-number l = AreFirstTerminalsOn l.terminals l.metal l.number l.cells.items
