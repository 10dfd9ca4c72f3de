-- A fault of a map as two numbers: one for what is wrong, which is this project's own, and the path of where it is.
use Rattle.std.specs.Prelude.{ℕ}
use Rattle.layer_map.specs.declared.fault.MapFault.{MapFault}
use Rattle.layer_map.specs.declared.fault.MapFault.TheVariants.{Syntax, BadKey, BadValue, RepeatedPair, RepeatedName, UnknownMetal}
use Rattle.layer_map.specs.declared.fault.MapFault.TheVariants.{RepeatedTerminal, LimitPassed, Memory}

-- the fault's number
abbrev pub number_of : MapFault → ℕ
number_of Syntax = 40
number_of (BadKey path) = 41
number_of (BadValue path) = 42
number_of (RepeatedPair path) = 43
number_of (RepeatedName path) = 44
number_of (UnknownMetal path) = 45
number_of (RepeatedTerminal path) = 46
number_of (LimitPassed path) = 47
number_of Memory = 0

-- the path of what is at fault, and 0 where there is none: for the text as a whole, and for want of memory
abbrev pub place_of : MapFault → ℕ
place_of Syntax = 0
place_of (BadKey path) = path
place_of (BadValue path) = path
place_of (RepeatedPair path) = path
place_of (RepeatedName path) = path
place_of (UnknownMetal path) = path
place_of (RepeatedTerminal path) = path
place_of (LimitPassed path) = path
place_of Memory = 0
