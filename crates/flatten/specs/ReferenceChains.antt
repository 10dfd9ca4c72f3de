-- chains: references one after the other, each from the structure to which the one before it leads
use Rattle.std.specs.Prelude.{ℕ, zero, suc, List, Contains}
use Rattle.library_model.specs.declared.library.Structure.{Structure}
use Rattle.flatten.specs.Structures.{targets_of}

-- a chain of this many references starts at the structure
abbrev pub StartsChain : List Structure → ℕ → ℕ → Type 0
StartsChain structures zero one = Unit {0}
StartsChain structures (suc n) one = (other : ℕ) × Contains (targets_of structures one) other × StartsChain structures n other

-- chains of every length start at the structure: it leads to a cycle, or lies in one
abbrev pub IsEndless : List Structure → ℕ → Type 0
IsEndless structures one = (n : ℕ) → StartsChain structures n one
