use Rattle.std.proofs.Common.{take_all}
use Rattle.layer_map.specs.Values.{whole_number}
use Rattle.layer_map.specs.inside.ReadValues.{IsWithin, finds}
use Rattle.layer_map.proofs.FindLaws.{found, none_found}
use Rattle.layer_map.proofs.SpelledLaws.{none_written, one_written}
use Rattle.layer_map.proofs.values.wholes_in.Goals as goal

pub returns-in-None : goal.returns-in-None
returns-in-None c = none_written whole_number (IsWithin c.args.low c.args.high) c.args.values.now _ _ c.loop-value-test.true c.value-item.is _ (λ things all. all) 0 (none_found c.in-None.ensures)

pub loop-value-preserved : goal.loop-value-preserved
loop-value-preserved c =
    rw c.in_ok-push-in-Some.ensures.items
    (one_written whole_number (IsWithin c.args.low c.args.high) c.args.values.now _ _ c.loop-value-test.true c.value-item.is _ _ c.loop-value.invariant (found c.in-Some.ensures))

pub returns : goal.returns
returns c = finds (rw (take_all c.loop-value.value-index c.args.values.now c.loop-value-test.false) at c.loop-value.invariant)
