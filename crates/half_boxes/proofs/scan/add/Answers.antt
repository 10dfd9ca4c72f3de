use Rattle.std.proofs.Common.{refl}
use Rattle.half_boxes.proofs.ScanLaws.{adds_apart, adds_touching}
use Rattle.half_boxes.proofs.scan.add.Goals as goal

pub returns-in_ok-push : goal.returns-in_ok-push
returns-in_ok-push c = adds_touching c.args.entry c.args.other c.args.pairs.now.items _ (c.if-touches.ensures.0 refl) c.in_ok-push.ensures.items

pub returns-else-touches : goal.returns-else-touches
returns-else-touches c = adds_apart c.args.entry c.args.other c.args.pairs.now.items (λ t. let touches = c.if-touches.ensures.1 t in cc)
