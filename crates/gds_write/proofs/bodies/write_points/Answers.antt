use Rattle.std.proofs.Common.{pos, refl, sym}
use Rattle.lists.proofs.Words.{append-nil}
use Rattle.gds_write.proofs.WriteLaws.{point_written, points_written}
use Rattle.gds_write.proofs.bodies.write_points.Goals as goal

pub loop-point-init : goal.loop-point-init
loop-point-init c = sym (append-nil c.write_head.new.out.items)

pub loop-point-preserved : goal.loop-point-preserved
loop-point-preserved c =
    point_written c.args.points.now c.loop-point.point-index (record { x = pos 0; y = pos 0 }) c.write_head.new.out.items c.loop-point.out.items c.write_point.new.out.items c.loop-point-test.true
    c.loop-point.invariant c.in_ok-write_point.ensures

pub returns : goal.returns
returns c =
    points_written c.args.points.now c.loop-point.point-index _ c.args.out.now.items c.write_head.new.out.items c.loop-point.out.items c.loop-point-test.false refl c.in_ok-write_head.ensures
    c.loop-point.invariant
