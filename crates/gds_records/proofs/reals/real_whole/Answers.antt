use Rattle.std.proofs.Common.{◌+◌, ◌*◌, ◌/◌, ◌^◌, drop, pos, ◌-ℤ◌}
use Rattle.lists.proofs.Words.{take_rest}
use Rattle.gds_records.proofs.RealLaws.{no_size_no_value, found_is_value, no_value_that_fits, sum_is_signed, difference_is_signed}
use Rattle.gds_records.proofs.reals.real_whole.Goals as goal

pub returns-in_err-size-clause-none : goal.returns-in_err-size-clause-none
returns-in_err-size-clause-none c =
    let bits = rw (take_rest c.args.rec.now.body.now (8 * c.args.k)) at c.read_u64-bits.ensures in
    rw c.from_residual.ensures (no_size_no_value (drop (8 * c.args.k) c.args.rec.now.body.now) c.read_u64-bits.result bits c.in_err-size.ensures.none)

pub returns-then-bits-eq0-clause-some : goal.returns-then-bits-eq0-clause-some
returns-then-bits-eq0-clause-some c =
    let bits = rw (take_rest c.args.rec.now.body.now (8 * c.args.k)) at c.read_u64-bits.ensures in
    let sum = sum_is_signed c.in_ok-size.size (c.read_u64-bits.result / 2 ^ 63) c.if-bits-eq0.true in
    found_is_value (drop (8 * c.args.k) c.args.rec.now.body.now) c.read_u64-bits.result bits c.in_ok-size.size c.in_ok-size.ensures.some (pos (0 + c.in_ok-size.size))
    c.checked_add_unsigned.result sum c.checked_add_unsigned.ensures

pub returns-then-bits-eq0-clause-none : goal.returns-then-bits-eq0-clause-none
returns-then-bits-eq0-clause-none c =
    let bits = rw (take_rest c.args.rec.now.body.now (8 * c.args.k)) at c.read_u64-bits.ensures in
    let sum = sum_is_signed c.in_ok-size.size (c.read_u64-bits.result / 2 ^ 63) c.if-bits-eq0.true in
    no_value_that_fits (drop (8 * c.args.k) c.args.rec.now.body.now) c.read_u64-bits.result bits c.in_ok-size.size c.in_ok-size.ensures.some (pos (0 + c.in_ok-size.size))
    c.checked_add_unsigned.result sum c.checked_add_unsigned.ensures

pub returns-else-bits-eq0-clause-some : goal.returns-else-bits-eq0-clause-some
returns-else-bits-eq0-clause-some c =
    let bits = rw (take_rest c.args.rec.now.body.now (8 * c.args.k)) at c.read_u64-bits.ensures in
    let difference = difference_is_signed c.in_ok-size.size (c.read_u64-bits.result / 2 ^ 63) c.if-bits-eq0.false in
    found_is_value (drop (8 * c.args.k) c.args.rec.now.body.now) c.read_u64-bits.result bits c.in_ok-size.size c.in_ok-size.ensures.some (pos 0 -ℤ pos c.in_ok-size.size)
    c.checked_sub_unsigned.result difference c.checked_sub_unsigned.ensures

pub returns-else-bits-eq0-clause-none : goal.returns-else-bits-eq0-clause-none
returns-else-bits-eq0-clause-none c =
    let bits = rw (take_rest c.args.rec.now.body.now (8 * c.args.k)) at c.read_u64-bits.ensures in
    let difference = difference_is_signed c.in_ok-size.size (c.read_u64-bits.result / 2 ^ 63) c.if-bits-eq0.false in
    no_value_that_fits (drop (8 * c.args.k) c.args.rec.now.body.now) c.read_u64-bits.result bits c.in_ok-size.size c.in_ok-size.ensures.some (pos 0 -ℤ pos c.in_ok-size.size)
    c.checked_sub_unsigned.result difference c.checked_sub_unsigned.ensures
