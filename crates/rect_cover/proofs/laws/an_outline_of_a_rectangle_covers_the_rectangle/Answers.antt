use Rattle.outlines.proofs.laws.RectangleLaws.{rectangle_covered}
use Rattle.rect_cover.proofs.laws.an_outline_of_a_rectangle_covers_the_rectangle.Goals as goal

pub returns : goal.returns
returns c = record {
  boundary = λ rect points c goes. rectangle_covered rect c points goes;
  box_element = λ rect points c goes. rectangle_covered rect c points goes;
}
