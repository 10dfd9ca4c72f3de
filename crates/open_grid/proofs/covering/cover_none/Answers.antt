use Rattle.std.proofs.Common.{sym, ◌∙◌}
use Rattle.lists.proofs.Words.{false≢true}
use Rattle.open_grid.proofs.CountLaws.{covers_all, covers_more, covers_nothing}
use Rattle.open_grid.proofs.covering.cover_none.Goals as goal

pub loop-one-init : goal.loop-one-init
loop-one-init c cell has = covers_nothing c.args.side cell

pub loop-one-preserved : goal.loop-one-preserved
loop-one-preserved c cell has =
    covers_more c.args.side cell c.args.boxes.now c.loop-one.one-index c.one-item.result c.loop-one-test.true c.one-item.is (c.loop-one.invariant cell has)
    (λ covered. false≢true (sym c.if-is_within.false
    ∙ c.is_within.ensures.1 (λ h in_one. (c.reach_of-reach.ensures h).1 (record { centre = cell; in_zone = has; hit = covered h in_one }))))

pub returns-then-is_within : goal.returns-then-is_within
returns-then-is_within c t = absurd (false≢true t)

pub returns : goal.returns
returns c t cell has = covers_all c.args.side cell c.args.boxes.now c.loop-one.one-index c.loop-one-test.false (c.loop-one.invariant cell has)
