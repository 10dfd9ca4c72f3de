use Rattle.std.proofs.Common.{take, All, Contains}
use Rattle.library_grammar.specs.GrammarNames.{kinds_of}
use Rattle.gds_syntax.proofs.checks.check_required.Given as goal

abbrev pub invariant-loop-needed : goal.invariant-loop-needed
invariant-loop-needed l = All (Contains (kinds_of l.own)) (take l.needed-index l.needed-items)
