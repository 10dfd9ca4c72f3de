-- a fault as two numbers: one for what is wrong, which is this project's own, and the offset at which it shows
use Rattle.std.specs.Prelude.{ℕ}
use Rattle.flatten.specs.declared.fault.PlaceFault.{PlaceFault}
use Rattle.flatten.specs.declared.fault.PlaceFault.TheVariants.{UnknownStructure, Cycle, NoTop, ManyTops, TooDeep, TooManyShapes}
use Rattle.flatten.specs.declared.fault.PlaceFault.TheVariants.{OutOfRange, Memory}

-- the fault's number
abbrev pub number_of : PlaceFault → ℕ
number_of (UnknownStructure at) = 24
number_of (Cycle at) = 25
number_of NoTop = 27
number_of (ManyTops at) = 28
number_of (TooDeep at) = 26
number_of (TooManyShapes at) = 29
number_of (OutOfRange at) = 30
number_of Memory = 0

-- the offset, in bytes, at which it shows: 0 where a library has no top, since no byte of it is wrong
abbrev pub place_of : PlaceFault → ℕ
place_of (UnknownStructure at) = at
place_of (Cycle at) = at
place_of NoTop = 0
place_of (ManyTops at) = at
place_of (TooDeep at) = at
place_of (TooManyShapes at) = at
place_of (OutOfRange at) = at
place_of Memory = 0
