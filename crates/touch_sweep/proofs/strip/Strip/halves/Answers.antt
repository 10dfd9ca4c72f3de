use Rattle.std.proofs.Common.{◌<◌, ◌/◌, ap, arith, rules, length, get_or, List, ℤ, pos, FitsSigned, w32}
use Rattle.lists.proofs.Words.{ints, clamps, to_z-of_z}
use Rattle.touch_sweep.proofs.SplitLaws.{parted_at}
use Rattle.touch_sweep.proofs.strip.Strip.halves.Goals as goal

pub returns-clause-parted : goal.returns-clause-parted
returns-clause-parted c =
    let strip = c.args.self in let splits = strip.splits.now in let middle = c.min-middle.result in
    let at = get_or c.split_at.result.1.now 0 (pos 0) in
    let fits_at : FitsSigned w32 at = search rules in let fits_low : FitsSigned w32 strip.low = search rules in let fits_high : FitsSigned w32 strip.high = search rules in
    let fits_max : FitsSigned w32 c.max.result = search rules in let fits_middle : FitsSigned w32 middle = search rules in
    let max = simp to_z-of_z at c.max.ensures.value in let min = simp to_z-of_z at c.min-middle.ensures.value in
    let same = ap (λ (xs : List ℤ). get_or xs 0 (pos 0)) c.split_at.ensures.back in
    let some : length splits / 2 < length splits = omega arith in
    rw (to_z-of_z w32 middle fits_middle, c.split_at.ensures.front, c.split_at.ensures.back)
    (parted_at splits (length splits / 2) some strip.low strip.high middle (pos 0)
    (λ up. (omega (arith, ints, clamps), omega (arith, ints, clamps)))
    (λ x i b. let from = i.from in let before = b.before in omega (arith, ints, clamps))
    (λ x i b. let before = i.before in let from = b.from in omega (arith, ints, clamps))
    (omega arith) (omega arith))
