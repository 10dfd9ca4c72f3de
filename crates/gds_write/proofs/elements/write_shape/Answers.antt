use Rattle.lists.proofs.Words.{IfOk-weaker}
use Rattle.gds_write.specs.Bodies.{unsigned_entry, points_entry}
use Rattle.gds_write.specs.Written.{path_records}
use Rattle.gds_records.specs.declared.kinds.TheConstants as kind
use Rattle.gds_write.proofs.WriteLaws.{enclosed_by_two}
use Rattle.gds_write.proofs.elements.write_shape.Goals as goal

pub returns : goal.returns
returns c =
    let shape = c.args.shape.now in
    let second = rw c.datatype_kind.ensures at c.in_ok-write_unsigned-2.ensures in
    let last = rw c.as_slice.ensures at c.write_points.ensures in
    IfOk-weaker c.write_points.result _ _
    (λ (u : Unit {0}) h.
    enclosed_by_two c.args.out.now.items c.write_unsigned.new.out.items c.write_unsigned-2.new.out.items c.write_path.new.out.items c.write_points.new.out.items
    (unsigned_entry kind.LAYER shape.layer) (unsigned_entry _ shape.datatype) (points_entry shape.points) (path_records shape.kind)
    c.in_ok-write_unsigned.ensures second c.in_ok-write_path.ensures h)
    last
