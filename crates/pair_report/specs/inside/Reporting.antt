-- rows that were reported: told to gauges, and their lines appended
use Rattle.std.specs.Prelude.{ℕ, List, flat_map}
use Rattle.report.specs.Gains.{Gains}
use Rattle.gauges.specs.GaugeViews.{GaugeView, AreTold}
use Rattle.gauges.specs.declared.pair_row.PairRow.{PairRow}
use Rattle.pair_report.specs.PairReport.{pair_line}

-- the gauges were told the rows, and bytes gained the rows' lines
pub record AreReported (rows : List PairRow) (old new : List (GaugeView PairRow)) (before after : List ℕ) : Type 0 where
  pub told : AreTold rows old new
  pub written : Gains before after (flat_map pair_line rows)
