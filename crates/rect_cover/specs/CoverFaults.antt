-- a fault as two numbers: one for what is wrong, which is this project's own, and the offset of the shape
use Rattle.std.specs.Prelude.{ℕ}
use Rattle.rect_cover.specs.declared.fault.CoverFault.{CoverFault}
use Rattle.rect_cover.specs.declared.fault.CoverFault.TheVariants.{RoundPath, BadExtension, OddWidth, PointPath, NotRectilinear, Reversal}
use Rattle.rect_cover.specs.declared.fault.CoverFault.TheVariants.{OutOfRange, Memory}

-- the fault's number
abbrev pub number_of : CoverFault → ℕ
number_of (OutOfRange at) = 30
number_of (NotRectilinear at) = 31
number_of (RoundPath at) = 32
number_of (OddWidth at) = 33
number_of (Reversal at) = 34
number_of (BadExtension at) = 35
number_of (PointPath at) = 36
number_of Memory = 0

-- the offset, in bytes, of the shape
abbrev pub place_of : CoverFault → ℕ
place_of (OutOfRange at) = at
place_of (NotRectilinear at) = at
place_of (RoundPath at) = at
place_of (OddWidth at) = at
place_of (Reversal at) = at
place_of (BadExtension at) = at
place_of (PointPath at) = at
place_of Memory = 0
