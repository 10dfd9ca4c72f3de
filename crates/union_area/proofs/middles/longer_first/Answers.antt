use Rattle.std.proofs.Common.{arith}
use Rattle.lists.proofs.Words.{ints}
use Rattle.fault_model.proofs.RangeLaws.{length-range}
use Rattle.union_area.proofs.middles.longer_first.Goals as goal

pub returns-then-abs_diff-clause-longer : goal.returns-then-abs_diff-clause-longer
returns-then-abs_diff-clause-longer c =
    let window = c.args.window in
    let across = window.across.some in let up = window.up.some in
    let width = length-range window.x0 window.x1 c.abs_diff.result (omega (arith, ints)) in
    let height = length-range window.y0 window.y1 c.abs_diff-2.result (omega (arith, ints)) in
    rw (width, height) (omega arith)

pub returns-clause-longer : goal.returns-clause-longer
returns-clause-longer c =
    let window = c.args.window in
    let across = window.across.some in let up = window.up.some in
    let width = length-range window.x0 window.x1 c.abs_diff.result (omega (arith, ints)) in
    let height = length-range window.y0 window.y1 c.abs_diff-2.result (omega (arith, ints)) in
    rw (width, height) (omega arith)
