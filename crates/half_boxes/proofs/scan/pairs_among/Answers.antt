use Rattle.half_boxes.proofs.ScanLaws.{found_next, found_none, later_in_order, none_left}
use Rattle.half_boxes.proofs.scan.pairs_among.Goals as goal

pub add_all-requires : goal.add_all-requires
add_all-requires c = later_in_order c.loop-entry.left.now c.in-Some.entry.now c.in-Some.later.now c.in-Some.ensures.cases.0 c.loop-entry.invariant.by_column

pub loop-entry-init : goal.loop-entry-init
loop-entry-init c = rw c.new-pairs.ensures.items (found_none c.args.entries.now c.requires)

pub loop-entry-preserved : goal.loop-entry-preserved
loop-entry-preserved c =
    found_next c.args.entries.now c.loop-entry.left.now c.in-Some.entry.now c.in-Some.later.now _ _ c.in-Some.ensures.cases.0 c.loop-entry.invariant c.in_ok-add_all.ensures

pub returns : goal.returns
returns c = none_left c.args.entries.now c.loop-entry.left.now c.loop-entry.pairs.items c.in_default.ensures.cases c.loop-entry.invariant
