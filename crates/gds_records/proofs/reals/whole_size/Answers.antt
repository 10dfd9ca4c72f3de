use Rattle.gds_records.proofs.laws.Reals.{product_is_size, no_product_no_size}
use Rattle.gds_records.proofs.RealLaws.{no_scale_no_size, some_parts, quotient_is_size, rest_no_size, no_parts_no_size}
use Rattle.gds_records.proofs.reals.whole_size.Goals as goal

pub returns-in_err-scale-clause-none : goal.returns-in_err-scale-clause-none
returns-in_err-scale-clause-none c =
    rw c.from_residual.ensures (λ m low is. no_scale_no_size c.args.fraction c.args.exponent m c.if-fraction-eq0.false c.if-exponent-ge-WHOLE.true c.in_err-scale.ensures low is)

pub returns-then-exponent-ge-WHOLE-clause-some : goal.returns-then-exponent-ge-WHOLE-clause-some
returns-then-exponent-ge-WHOLE-clause-some c =
    product_is_size c.args.fraction c.args.exponent c.in_ok-scale.scale c.if-exponent-ge-WHOLE.true c.in_ok-scale.ensures.1 c.checked_mul.result c.checked_mul.ensures

pub returns-then-exponent-ge-WHOLE-clause-none : goal.returns-then-exponent-ge-WHOLE-clause-none
returns-then-exponent-ge-WHOLE-clause-none c =
    no_product_no_size c.args.fraction c.args.exponent c.in_ok-scale.scale c.if-exponent-ge-WHOLE.true c.in_ok-scale.ensures.1 c.checked_mul.result c.checked_mul.ensures

pub returns-in_err-parts-clause-none : goal.returns-in_err-parts-clause-none
returns-in_err-parts-clause-none c =
    rw c.from_residual-in_err-parts.ensures
    (λ m low is. no_parts_no_size c.args.fraction c.args.exponent m c.if-fraction-eq0.false c.ranges.fraction.fits c.if-exponent-ge-WHOLE.false c.in_err-parts.ensures is)

pub nonzero_rem-fraction : goal.nonzero_rem-fraction
nonzero_rem-fraction c = some_parts c.args.fraction c.args.exponent c.in_ok-parts.parts c.if-exponent-ge-WHOLE.false c.in_ok-parts.ensures.1

pub returns-then-fraction-parts-ne0-clause-none : goal.returns-then-fraction-parts-ne0-clause-none
returns-then-fraction-parts-ne0-clause-none c =
    λ m low is. rest_no_size c.args.fraction c.args.exponent c.in_ok-parts.parts c.if-exponent-ge-WHOLE.false c.in_ok-parts.ensures.1 c.if-fraction-parts-ne0.true m is

pub returns-clause-some : goal.returns-clause-some
returns-clause-some c =
    quotient_is_size c.args.fraction c.args.exponent c.in_ok-parts.parts c.if-exponent-ge-WHOLE.false c.in_ok-parts.ensures.1 c.if-fraction-parts-ne0.false
