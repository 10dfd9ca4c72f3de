use Rattle.half_boxes.proofs.BoxLaws.{clipped, columns_overlap, rows_overlap}
use Rattle.half_boxes.proofs.boxes.HalfBox.clip.Goals as goal

pub returns-clause-some : goal.returns-clause-some
returns-clause-some c = clipped c.args.self c.args.other _ c.in_ok-columns.ensures.some c.in_ok-rows.ensures.some

pub returns-in_err-columns-clause-none : goal.returns-in_err-columns-clause-none
returns-in_err-columns-clause-none c = rw c.from_residual.ensures (λ o. c.in_err-columns.ensures.none (columns_overlap c.args.self c.args.other o))

pub returns-in_err-rows-clause-none : goal.returns-in_err-rows-clause-none
returns-in_err-rows-clause-none c = rw c.from_residual-in_err-rows.ensures (λ o. c.in_err-rows.ensures.none (rows_overlap c.args.self c.args.other o))
