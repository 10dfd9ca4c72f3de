use Rattle.std.proofs.Common.{◌≡◌, map}
use Rattle.lists.proofs.Words.{range_with_len}
use Rattle.library_grammar.specs.GrammarNames.{point_in}
use Rattle.gds_syntax.proofs.points.points_at.Given as goal

abbrev pub invariant-loop-k : goal.invariant-loop-k
invariant-loop-k l = l.points.items ≡ map (point_in l.xy.body.now) (range_with_len 0 l.k)
