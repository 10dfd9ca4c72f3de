use Rattle.std.proofs.Common.{sym, ◌∙◌}
use Rattle.lists.proofs.Words.{false≢true}
use Rattle.open_grid.proofs.ArcLaws.{outside_all, outside_more, outside_none}
use Rattle.open_grid.proofs.arcs.are_outside.Goals as goal

pub loop-one-init : goal.loop-one-init
loop-one-init c = outside_none c.args.reach

pub loop-one-preserved : goal.loop-one-preserved
loop-one-preserved c = outside_more c.args.reach c.args.boxes.now c.loop-one.one-index c.one-item.result c.loop-one-test.true c.one-item.is c.loop-one.invariant
    (λ lies. false≢true (sym c.if-is_within.false ∙ c.is_within.ensures.1 lies))

pub returns : goal.returns
returns c t = outside_all c.args.reach c.args.boxes.now c.loop-one.one-index c.loop-one-test.false c.loop-one.invariant
