-- the number of a fault, which is this project's own
use Rattle.std.specs.Prelude.{ℕ}
use Rattle.command_line.specs.declared.fault.WordsFault.{WordsFault}
use Rattle.command_line.specs.declared.fault.WordsFault.TheVariants.{Usage, Memory}

-- the fault's number
abbrev pub number_of : WordsFault → ℕ
number_of Usage = 2
number_of Memory = 0
