use Rattle.std.proofs.Common.{◌∙◌}
use Rattle.report.specs.Report.{product_of}
use Rattle.gauges.proofs.GreatestLaws.{found_greatest}
use Rattle.gauges.proofs.peak.peak_row.Goals as goal

pub returns : goal.returns
returns c =
    c.first_with_product.ensures
    ∙ found_greatest product_of c.args.rows.now c.in_ok-greatest.greatest c.in_ok-greatest.ensures.reached c.in_ok-greatest.ensures.bound
