use Rattle.toml.specs.View.{view}
use Rattle.layer_map.specs.Values.{pair_value}
use Rattle.layer_map.proofs.FirstLaws.{first_seen}
use Rattle.layer_map.proofs.SearchLaws.{none_before_more, not_contained}
use Rattle.layer_map.proofs.firsts.pair_at.Goals as goal

pub loop-number-preserved : goal.loop-number-preserved
loop-number-preserved c =
    none_before_more view c.args.values.now (pair_value (c.args.layer, c.args.datatype)) c.loop-number.number c.index-values-number.result c.loop-number-test.true
    (λ same. cc (c.is_pair.ensures.1 (rw (← c.index-values-number.is) at same), c.if-is_pair.false)) c.loop-number.invariant

pub returns-then-is_pair-clause-some : goal.returns-then-is_pair-clause-some
returns-then-is_pair-clause-some c =
    first_seen view c.args.values.now (pair_value (c.args.layer, c.args.datatype)) c.loop-number.number c.index-values-number.result c.loop-number-test.true c.index-values-number.is
    (c.is_pair.ensures.0 c.if-is_pair.true) c.loop-number.invariant

pub returns-clause-none : goal.returns-clause-none
returns-clause-none c =
    not_contained view c.args.values.now (pair_value (c.args.layer, c.args.datatype)) c.loop-number.number c.loop-number-test.false c.loop-number.invariant
