use Rattle.std.proofs.Common.{◌≡◌, refl}
use Rattle.lists.proofs.Reading.{All-read, All-read_all}
use Rattle.geo_core.specs.Plane.{Overlap}
use Rattle.geo_core.specs.declared.plane.Labelled.{Labelled}
use Rattle.net_pairs.proofs.beside.is_alone.Goals as goal

pub loop-other-preserved : goal.loop-other-preserved
loop-other-preserved c =
    All-read (λ (other : Labelled). Overlap other.rect c.args.zone.rect → other.label ≡ c.args.zone.label) _ _ _ c.loop-other-test.true c.other-item.is c.loop-other.invariant (c.if-meets_other.ensures refl)

pub returns : goal.returns
returns c t = All-read_all (λ (other : Labelled). Overlap other.rect c.args.zone.rect → other.label ≡ c.args.zone.label) _ _ c.loop-other-test.false c.loop-other.invariant
