use Rattle.std.proofs.Common.{arith, take_all}
use Rattle.lists.proofs.Words.{nat_tests}
use Rattle.layer_map.proofs.FindLaws.{found, none_found}
use Rattle.layer_map.proofs.PairLaws.{all_pairs, wrong_count}
use Rattle.layer_map.proofs.SpelledLaws.{none_written, one_written}
use Rattle.layer_map.specs.Values.{pair_value}
use Rattle.map_model.specs.MapNames.{ArePairs, IsPair}
use Rattle.layer_map.proofs.layer_items.pairs_of.Goals as goal

pub returns-then-is_empty : goal.returns-then-is_empty
returns-then-is_empty c = wrong_count c.args.values.now (λ counts. grind (arith, nat_tests, c.is_empty.ensures, c.if-is_empty.true, counts.0))

pub returns-then-values-gt-MOST_PAIRS : goal.returns-then-values-gt-MOST_PAIRS
returns-then-values-gt-MOST_PAIRS c = wrong_count c.args.values.now (λ counts. omega (arith, counts.1))

pub returns-in-None : goal.returns-in-None
returns-in-None c =
    none_written pair_value IsPair c.args.values.now _ _ c.loop-value-test.true c.value-item.is ArePairs (λ pairs are. are.each) (0, 0) (none_found c.in-None.ensures)

pub loop-value-preserved : goal.loop-value-preserved
loop-value-preserved c =
    rw c.in_ok-push-in-Some.ensures.items
    (one_written pair_value IsPair c.args.values.now _ _ c.loop-value-test.true c.value-item.is _ _ c.loop-value.invariant (found c.in-Some.ensures))

pub returns : goal.returns
returns c =
    all_pairs c.args.values.now c.loop-value.pairs.items (grind (arith, nat_tests, c.is_empty.ensures, c.if-is_empty.false)) c.if-values-gt-MOST_PAIRS.false
    (rw (take_all c.loop-value.value-index c.args.values.now c.loop-value-test.false) at c.loop-value.invariant)
