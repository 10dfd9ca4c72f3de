use Rattle.std.proofs.Common.{◌≡◌, arith}
use Rattle.remnants.proofs.PieceLaws.{none_below, below_more}
use Rattle.remnants.proofs.island_boxes.numbers_below.Goals as goal

pub loop-number-init : goal.loop-number-init
loop-number-init c = rw c.in_ok-numbers.ensures.items none_below

pub loop-number-preserved : goal.loop-number-preserved
loop-number-preserved c = rw c.in_ok-push.ensures.items (below_more c.loop-number.numbers.items c.loop-number.number c.loop-number.invariant)

pub returns : goal.returns
returns c = let all : c.loop-number.number ≡ c.args.count = omega arith in rw all at c.loop-number.invariant
