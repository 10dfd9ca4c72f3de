use Rattle.layer_map.proofs.FindLaws.{found, none_found}
use Rattle.layer_map.proofs.SizeLaws.{are_weights, not_weights, other_count}
use Rattle.layer_map.proofs.sizes.weights_of.Goals as goal

pub returns-then-values-count : goal.returns-then-values-count
returns-then-values-count c = other_count c.args.values.now c.args.count c.if-values-count.true

pub returns-in-None : goal.returns-in-None
returns-in-None c = not_weights c.args.values.now c.args.count (none_found (rw c.in-None.is at c.in_ok-weights.ensures))

pub returns-in_ok-widened-in-Some : goal.returns-in_ok-widened-in-Some
returns-in_ok-widened-in-Some c =
    rw (c.in_ok-widened-in-Some.ensures, c.deref.ensures.value) (are_weights c.args.values.now c.args.count c.in-Some.weights.items c.if-values-count.false
    (found (rw c.in-Some.is at c.in_ok-weights.ensures)))
