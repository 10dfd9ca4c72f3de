use Rattle.std.proofs.Common.{rules}
use Rattle.geo_core.specs.declared.plane.Labelled.{Labelled}
use Rattle.short_area.proofs.Ordering.{AllPairs-from_nat_sort}
use Rattle.short_area.proofs.runs.by_label.Goals as goal

pub returns-clause-ordered : goal.returns-clause-ordered
returns-clause-ordered c = AllPairs-from_nat_sort (λ (zone : Labelled). zone.label) _ c.sort_unstable_by_key.ensures.sorted (λ a r q k. search rules)
