use Rattle.std.proofs.Common.{arith}
use Rattle.lists.proofs.Words.{ints}
use Rattle.ring_test.specs.Rings.{hole_at, hole_of}
use Rattle.ring_test.proofs.HoleLaws.{columns_in_hole, rows_in_hole, same_hole}
use Rattle.ring_test.proofs.holes.defect_hole.Goals as goal

pub returns-clause-some : goal.returns-clause-some
returns-clause-some c = same_hole (hole_of (record { columns = c.in_ok-columns.columns; rows = c.in_ok-rows.rows })) (hole_at c.args.cell c.args.side)
    (omega (arith, ints, c.in_ok-columns.ensures.low)) (omega (arith, ints, c.in_ok-columns.ensures.high))
    (omega (arith, ints, c.in_ok-rows.ensures.low)) (omega (arith, ints, c.in_ok-rows.ensures.high))

pub returns-in_err-columns-clause-none : goal.returns-in_err-columns-clause-none
returns-in_err-columns-clause-none c = rw c.from_residual.ensures (λ rect h layout on is.
    c.in_err-columns.ensures.none rect.x0 rect.x1 layout.across (columns_in_hole rect (hole_at c.args.cell c.args.side) h on is _ _ (omega (arith, ints)) (omega (arith, ints))))

pub returns-in_err-rows-clause-none : goal.returns-in_err-rows-clause-none
returns-in_err-rows-clause-none c = rw c.from_residual-in_err-rows.ensures (λ rect h layout on is.
    c.in_err-rows.ensures.none rect.y0 rect.y1 layout.up (rows_in_hole rect (hole_at c.args.cell c.args.side) h on is _ _ (omega (arith, ints)) (omega (arith, ints))))
