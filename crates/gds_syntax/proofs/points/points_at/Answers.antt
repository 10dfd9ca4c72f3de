use Rattle.std.proofs.Common.{arith, refl}
use Rattle.std.proofs.lemmas.List.FromFn.{map-range_with_len_more}
use Rattle.library_grammar.specs.GrammarNames.{point_in}
use Rattle.gds_syntax.proofs.points.points_at.Goals as goal

pub loop-k-preserved : goal.loop-k-preserved
loop-k-preserved c =
    rw (c.in_ok-push.ensures.items, c.loop-k.invariant, c.point_at.ensures, map-range_with_len_more (point_in c.args.xy.now.body.now) 0 c.loop-k.k c.loop-k.k (omega arith)) refl
