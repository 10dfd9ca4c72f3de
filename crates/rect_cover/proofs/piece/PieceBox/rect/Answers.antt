use Rattle.std.proofs.Common.{arith}
use Rattle.lists.proofs.Words.{ints}
use Rattle.rect_cover.proofs.BoxLaws.{narrowed}
use Rattle.rect_cover.proofs.piece.PieceBox.rect.Goals as goal

pub returns : goal.returns
returns c =
    let some = c.requires.some in
    let within = c.requires.within in
    cc (
      narrowed c.args.self.x0 c.new.result.x0 within.left (omega (arith, ints)) c.new.ensures.left,
      narrowed c.args.self.y0 c.new.result.y0 within.bottom (omega (arith, ints)) c.new.ensures.bottom,
      narrowed c.args.self.x1 c.new.result.x1 (omega (arith, ints)) within.right c.new.ensures.right,
      narrowed c.args.self.y1 c.new.result.y1 (omega (arith, ints)) within.top c.new.ensures.top,
    )
