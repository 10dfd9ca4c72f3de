use Rattle.half_boxes.proofs.BoxLaws.{joined}
use Rattle.half_boxes.proofs.boxes.HalfBox.join.Goals as goal

pub returns : goal.returns
returns c = joined c.args.self c.args.other _ c.join.ensures c.join-2.ensures
