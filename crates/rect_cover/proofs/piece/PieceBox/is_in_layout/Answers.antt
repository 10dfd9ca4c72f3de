use Rattle.std.proofs.Common.{w64, rules}
use Rattle.lists.proofs.Words.{to_z-of_z}
use mir.Val.{SFits}
use Rattle.rect_cover.proofs.piece.PieceBox.is_in_layout.Goals as goal

pub returns-then-lies_in_layout : goal.returns-then-lies_in_layout
returns-then-lies_in_layout c =
    let left : SFits w64 c.args.self.x0 = search rules in
    let right : SFits w64 c.args.self.x1 = search rules in
    let bottom : SFits w64 c.args.self.y0 = search rules in
    let top : SFits w64 c.args.self.y1 = search rules in
    let across = simp to_z-of_z at c.lies_in_layout.ensures in
    let up = simp to_z-of_z at c.lies_in_layout-then-lies_in_layout.ensures in (
      λ h. record { left = (across.0 c.if-lies_in_layout.true).0; right = (across.0 c.if-lies_in_layout.true).1; bottom = (up.0 h).0; top = (up.0 h).1 },
      λ within. up.1 (within.bottom, within.top),
    )
