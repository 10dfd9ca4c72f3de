use Rattle.flatten.proofs.MarkLaws.{tops_told}
use Rattle.flatten.proofs.tops.tops_with.Goals as goal

pub returns : goal.returns
returns c = tops_told c.args.structures.now _ c.in_ok-marks.ensures.long c.in_ok-marks.ensures.marked c.as_slice.result.now c.as_slice.ensures.value _ c.unmarked.result c.unmarked.ensures
