use Rattle.std.proofs.Common.{◌≡◌, ◌++◌, take}
use Rattle.lists.proofs.Words.{flat_map}
use Rattle.library_grammar.specs.GrammarNames.{spellings}
use Rattle.gds_write.specs.Written.{written_structure}
use Rattle.gds_write.proofs.library.write_library.Given as goal

-- the structures up to this one are written
abbrev pub invariant-loop-structure : goal.invariant-loop-structure
invariant-loop-structure l = l.out.items ≡ l.initial.out.items ++ spellings (flat_map written_structure (take l.structure-index l.library.structures))
