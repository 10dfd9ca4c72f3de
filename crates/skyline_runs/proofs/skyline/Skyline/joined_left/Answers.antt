use Rattle.std.proofs.Common.{arith}
use Rattle.lists.proofs.Words.{ints}
use Rattle.skyline_runs.proofs.Joining.{both_abutting, joined}
use Rattle.skyline_runs.proofs.skyline.Skyline.joined_left.Goals as goal

pub returns-in-Some : goal.returns-in-Some
returns-in-Some c = joined c.args.self.now c.take_out.new.self c.in-Some.left c.args.rect c.new.result c.requires.room c.take_out.ensures
    (both_abutting c.in-Some.left c.args.rect c.new.result (omega (arith, ints, c.if-left-rect.true)) (omega (arith, ints)) (omega (arith, ints))
    (omega (arith, ints, c.if-left-rect-2.true)) (omega (arith, ints, c.if-left-rect-3.true)) (omega (arith, ints)) (omega (arith, ints)))
    c.in-Some.ensures.is_active
