use Rattle.std.proofs.Common.{below_more}
use Rattle.layer_map.specs.Values.{pair_value}
use Rattle.layer_map.proofs.CauseLaws.{at_none}
use Rattle.layer_map.proofs.FirstLaws.{first_among, not_anywhere, not_here}
use Rattle.layer_map.proofs.firsts.pair_among.Goals as goal

pub returns-in-Some-clause-some : goal.returns-in-Some-clause-some
returns-in-Some-clause-some c =
    first_among c.args.items.now (pair_value (c.args.layer, c.args.datatype)) c.loop-number.number c.in-Some.at c.index-items-number.result c.loop-number-test.true c.index-items-number.is
    c.in-Some.ensures.some c.loop-number.invariant

pub loop-number-preserved : goal.loop-number-preserved
loop-number-preserved c =
    below_more _ _ c.loop-number.invariant
    (not_here c.args.items.now (pair_value (c.args.layer, c.args.datatype)) c.loop-number.number c.index-items-number.result c.loop-number-test.true c.index-items-number.is
    (at_none c.pair_in.result c.in_default.not-Some c.pair_in.ensures.none))

pub returns-clause-none : goal.returns-clause-none
returns-clause-none c =
    not_anywhere c.args.items.now (pair_value (c.args.layer, c.args.datatype)) c.loop-number.number c.loop-number-test.false c.loop-number.invariant
