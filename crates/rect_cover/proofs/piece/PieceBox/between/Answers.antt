use Rattle.std.proofs.Common.{sym, ◌∙◌, rules}
use Rattle.rect_cover.specs.inside.PieceBoxes.{knot_of}
use Rattle.rect_cover.specs.declared.direction.Direction.TheVariants.{Right, Up, Left, Down}
use Rattle.rect_cover.proofs.BoxLaws.{leading, lowered, raised}
use Rattle.rect_cover.proofs.piece.PieceBox.between.Goals as goal

pub returns-in-Right : goal.returns-in-Right
returns-in-Right c =
    let from = c.args.from in let to = c.args.to in let half = c.args.half_width in
    leading Right half (knot_of from, knot_of to) _ (sym c.in-Right.is ∙ c.between.ensures) (cc (
      lowered c.below.result from.point.x from.reach (search rules) (search rules) c.below.ensures,
      lowered c.below-in-Right.result from.point.y half (search rules) (search rules) c.below-in-Right.ensures,
      raised c.above.result to.point.x to.reach (search rules) (search rules) c.above.ensures,
      raised c.above-in-Right.result from.point.y half (search rules) (search rules) c.above-in-Right.ensures,
    ))

pub returns-in-Left : goal.returns-in-Left
returns-in-Left c =
    let from = c.args.from in let to = c.args.to in let half = c.args.half_width in
    leading Left half (knot_of from, knot_of to) _ (sym c.in-Left.is ∙ c.between.ensures) (cc (
      lowered c.below-in-Left.result to.point.x to.reach (search rules) (search rules) c.below-in-Left.ensures,
      lowered c.below-in-Left-2.result from.point.y half (search rules) (search rules) c.below-in-Left-2.ensures,
      raised c.above-in-Left.result from.point.x from.reach (search rules) (search rules) c.above-in-Left.ensures,
      raised c.above-in-Left-2.result from.point.y half (search rules) (search rules) c.above-in-Left-2.ensures,
    ))

pub returns-in-Up : goal.returns-in-Up
returns-in-Up c =
    let from = c.args.from in let to = c.args.to in let half = c.args.half_width in
    leading Up half (knot_of from, knot_of to) _ (sym c.in-Up.is ∙ c.between.ensures) (cc (
      lowered c.below-in-Up.result from.point.x half (search rules) (search rules) c.below-in-Up.ensures,
      lowered c.below-in-Up-2.result from.point.y from.reach (search rules) (search rules) c.below-in-Up-2.ensures,
      raised c.above-in-Up.result from.point.x half (search rules) (search rules) c.above-in-Up.ensures,
      raised c.above-in-Up-2.result to.point.y to.reach (search rules) (search rules) c.above-in-Up-2.ensures,
    ))

pub returns-in-Down : goal.returns-in-Down
returns-in-Down c =
    let from = c.args.from in let to = c.args.to in let half = c.args.half_width in
    leading Down half (knot_of from, knot_of to) _ (sym c.in-Down.is ∙ c.between.ensures) (cc (
      lowered c.below-in-Down.result from.point.x half (search rules) (search rules) c.below-in-Down.ensures,
      lowered c.below-in-Down-2.result to.point.y to.reach (search rules) (search rules) c.below-in-Down-2.ensures,
      raised c.above-in-Down.result from.point.x half (search rules) (search rules) c.above-in-Down.ensures,
      raised c.above-in-Down-2.result from.point.y from.reach (search rules) (search rules) c.above-in-Down-2.ensures,
    ))
