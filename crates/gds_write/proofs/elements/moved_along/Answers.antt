use Rattle.gds_write.proofs.MoveLaws.{moved, product_does_not_wrap, sum_does_not_wrap}
use Rattle.gds_write.proofs.elements.moved_along.Goals as goal

pub overflow_mul-result : goal.overflow_mul-result
overflow_mul-result c =
    product_does_not_wrap c.args.at c.args.step c.from.result c.from-2.result c.args.count c.ranges.at c.ranges.step c.requires.few c.requires.short c.requires.fits c.from.ensures c.from-2.ensures

pub overflow_add-result : goal.overflow_add-result
overflow_add-result c =
    sum_does_not_wrap c.args.at c.args.step c.from.result c.from-2.result c.args.count c.ranges.at c.ranges.step c.requires.few c.requires.short c.requires.fits c.from.ensures c.from-2.ensures

pub returns : goal.returns
returns c =
    moved c.args.at c.args.step c.from.result c.from-2.result c.args.count c.ranges.at c.ranges.step c.requires.few c.requires.short c.requires.fits c.from.ensures c.from-2.ensures
