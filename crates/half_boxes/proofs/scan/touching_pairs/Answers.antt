use Rattle.half_boxes.proofs.ScanLaws.{found_all}
use Rattle.half_boxes.proofs.scan.touching_pairs.Goals as goal

pub returns : goal.returns
returns c =
    found_all c.args.boxes.now c.in_ok-entries.entries.items c.in_ok-pairs.pairs.items c.in_ok-entries.ensures.numbered c.in_ok-entries.ensures.as_many
    (rw c.as_slice.ensures.value at c.in_ok-pairs.ensures)
