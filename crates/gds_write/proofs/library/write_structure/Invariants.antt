use Rattle.std.proofs.Common.{◌≡◌, ◌++◌, take}
use Rattle.lists.proofs.Words.{flat_map}
use Rattle.library_grammar.specs.GrammarNames.{spellings}
use Rattle.gds_write.specs.Written.{written_element}
use Rattle.gds_write.proofs.library.write_structure.Given as goal

-- the elements up to this one are written
abbrev pub invariant-loop-element : goal.invariant-loop-element
invariant-loop-element l = l.out.items ≡ l.initial.out.items ++ spellings (flat_map written_element (take l.element-index l.structure.elements))
