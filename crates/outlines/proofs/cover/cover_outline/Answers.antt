use Rattle.lists.proofs.Words.{IfOk-weaker}
use Rattle.outlines.proofs.OutlineLaws.{turns_balanced, wound_is_inside}
use Rattle.outlines.proofs.cover.cover_outline.Goals as goal

pub fill_turns-requires : goal.fill_turns-requires
fill_turns-requires c = turns_balanced c.args.points.now c.in_ok-turns.turns.items c.requires.outline.closed c.in_ok-turns.ensures

pub returns : goal.returns
returns c = IfOk-weaker c.fill_turns.result _ _ (λ rects. wound_is_inside c.args.points.now c.in_ok-turns.turns.items rects.items c.in_ok-turns.ensures) c.fill_turns.ensures
