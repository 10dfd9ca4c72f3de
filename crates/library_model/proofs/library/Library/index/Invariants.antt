use Rattle.std.proofs.Common.{◌≡◌, take}
use Rattle.library_model.specs.Names.{names_of}
use Rattle.library_model.proofs.library.Library.index.Given as goal

-- the index has the names of the structures that are behind
abbrev pub invariant-loop-structure : goal.invariant-loop-structure
invariant-loop-structure l = l.index ≡ names_of (take l.structure-index l.self.structures)
