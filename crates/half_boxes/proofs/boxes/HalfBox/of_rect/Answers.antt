use Rattle.half_boxes.proofs.BoxLaws.{of_rect_has}
use Rattle.half_boxes.proofs.boxes.HalfBox.of_rect.Goals as goal

pub returns : goal.returns
returns c = of_rect_has c.args.rect _ (cc) (cc) (cc) (cc)
