use Rattle.std.proofs.Common.{ℕ, ◌≡◌, ◌≤◌, ◌<◌, ◌^◌, ℤ, pos, nat_abs, ◌*ℤ◌, to_z, of_z, w64, arith}
use Rattle.lists.proofs.Words.{to_z-of_z, unsigned_abs-mul}
use Rattle.std.proofs.lemmas.Int.{fits_signed_mul, fits_signed_from_abs, to_z_pos}
use Rattle.std.specs.Int.RustNames.{FitsSigned}
use Rattle.std.proofs.Math.Nat.{mul-le-mul}
use Rattle.flatten.proofs.offset.steps_along.Goals as goal

fits : (count : ℕ) (step : ℤ) → count < 2 ^ 15 → nat_abs step ≤ 2 ^ 32 → FitsSigned w64 (pos count *ℤ step)
fits count step few short = fits_signed_mul w64 (pos count) step (2 ^ 15) (2 ^ 32) (omega arith) short (omega arith)

amount : (count : ℕ) (step : ℤ) → count < 2 ^ 15 → nat_abs step ≤ 2 ^ 32 → nat_abs (pos count *ℤ step) ≤ 2 ^ 47
amount count step few short = rw (unsigned_abs-mul (pos count) step) (mul-le-mul {n₂ = 2 ^ 15} {m₂ = 2 ^ 32} (omega arith) short)

product : (count : ℕ) (from step : ℤ) → from ≡ pos count → count < 2 ^ 15 → nat_abs step ≤ 2 ^ 32 → to_z w64 (of_z w64 from) *ℤ to_z w64 (of_z w64 step) ≡ pos count *ℤ step
product count from step is few short =
    let same : to_z w64 (of_z w64 from) ≡ pos count = rw is (to_z_pos w64 count (omega arith)) in
    let kept : to_z w64 (of_z w64 step) ≡ step = to_z-of_z w64 step (fits_signed_from_abs w64 step (omega arith)) in
    rw (same, kept)

pub overflow_mul-result : goal.overflow_mul-result
overflow_mul-result c = rw (product c.args.count c.from.result c.args.step c.from.ensures c.requires.few c.requires.short) (fits c.args.count c.args.step c.requires.few c.requires.short)

pub returns-clause-value : goal.returns-clause-value
returns-clause-value c = rw (product c.args.count c.from.result c.args.step c.from.ensures c.requires.few c.requires.short)
    (to_z-of_z w64 _ (fits c.args.count c.args.step c.requires.few c.requires.short))

pub returns-clause-amount : goal.returns-clause-amount
returns-clause-amount c =
    rw (product c.args.count c.from.result c.args.step c.from.ensures c.requires.few c.requires.short, to_z-of_z w64 _ (fits c.args.count c.args.step c.requires.few c.requires.short))
    (amount c.args.count c.args.step c.requires.few c.requires.short)
