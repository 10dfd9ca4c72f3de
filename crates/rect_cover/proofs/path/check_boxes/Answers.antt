use Rattle.std.proofs.Common.{[], ◌∷◌, subst, All}
use Rattle.lists.proofs.Words.{All-map}
use Rattle.rect_cover.specs.ShapeChecks.{ShapeHolds, HasCells, IsBoxInLayout, boxes_of, shape_fault, has_long_pieces, is_within}
use Rattle.rect_cover.specs.inside.PieceBoxes.{box_value}
use Rattle.rect_cover.proofs.BoxLaws.{each_box}
use Rattle.rect_cover.proofs.PathLaws.{fails_behind}
use Rattle.rect_cover.proofs.path.check_boxes.Goals as goal

pub returns-then-not-have_cells-clause-refused : goal.returns-then-not-have_cells-clause-refused
returns-then-not-have_cells-clause-refused c style points same =
    fails_behind (ShapeHolds points) (shape_fault c.args.at) [] (has_long_pieces style) _ tt
    (λ all. let told = c.have_cells.ensures.1 (each_box HasCells c.args.boxes.now (boxes_of style points) same all) in cc)

pub returns-then-not-are_in_layout-clause-refused : goal.returns-then-not-are_in_layout-clause-refused
returns-then-not-are_in_layout-clause-refused c style points same =
    let long = subst (All HasCells) same (All-map HasCells box_value c.args.boxes.now (c.have_cells.ensures.0 c.if-not-have_cells.false)) in
    fails_behind (ShapeHolds points) (shape_fault c.args.at) (has_long_pieces style ∷ []) (is_within style) _ (long, tt)
    (λ all. let told = c.are_in_layout.ensures.1 (each_box IsBoxInLayout c.args.boxes.now (boxes_of style points) same all) in cc)
