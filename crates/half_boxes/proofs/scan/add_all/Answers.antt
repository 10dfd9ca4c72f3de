use Rattle.std.proofs.Common.{arith}
use Rattle.lists.proofs.Words.{ints}
use Rattle.half_boxes.proofs.ScanLaws.{adds_all, adds_next, adds_none, rest_apart}
use Rattle.half_boxes.proofs.scan.add_all.Goals as goal

pub loop-other-init : goal.loop-other-init
loop-other-init c = adds_none c.args.entry c.args.pairs.now.items

pub loop-other-preserved : goal.loop-other-preserved
loop-other-preserved c =
    adds_next c.args.entry c.args.others.now c.loop-other.other-index c.other-item.result _ _ _ (omega arith) c.other-item.is c.loop-other.invariant c.in_ok-add.ensures

pub returns-then-other-entry : goal.returns-then-other-entry
returns-then-other-entry c =
    rest_apart c.args.entry c.args.others.now c.loop-other.other-index c.other-item.result _ _ (omega arith) c.other-item.is c.requires (omega (arith, ints)) c.loop-other.invariant

pub returns : goal.returns
returns c = adds_all c.args.entry c.args.others.now c.loop-other.other-index _ _ (omega arith) c.loop-other.invariant
