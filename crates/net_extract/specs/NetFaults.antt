-- A fault of terminals as two numbers, for what is wrong and for where it is.
use Rattle.std.specs.Prelude.{ℕ}
use Rattle.net_extract.specs.declared.fault.NetFault.{NetFault}
use Rattle.net_extract.specs.declared.fault.NetFault.TheVariants.{TerminalOffMetal, Memory}

-- the fault's number, which is this project's own
abbrev pub number_of : NetFault → ℕ
number_of (TerminalOffMetal index) = 50
number_of Memory = 0

-- the terminal's number, counted from 0; 0 for want of memory
abbrev pub place_of : NetFault → ℕ
place_of (TerminalOffMetal index) = index
place_of Memory = 0
