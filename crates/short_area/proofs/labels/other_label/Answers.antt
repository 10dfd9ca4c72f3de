use Rattle.std.proofs.Common.{◌≡◌}
use Rattle.geo_core.specs.declared.plane.Labelled.{Labelled}
use Rattle.lists.proofs.Reading.{All-read, All-read_all}
use Rattle.short_area.proofs.labels.other_label.Goals as goal

pub loop-zone-preserved : goal.loop-zone-preserved
loop-zone-preserved c =
    All-read (λ (zone : Labelled). zone.label ≡ c.args.label) _ _ _ c.loop-zone-test.true c.zone-item.is c.loop-zone.invariant c.if-zone-label.false

pub returns-clause-none : goal.returns-clause-none
returns-clause-none c = All-read_all (λ (zone : Labelled). zone.label ≡ c.args.label) _ _ c.loop-zone-test.false c.loop-zone.invariant
