use Rattle.std.proofs.Common.{inl, inr, ◌≡◌, ◌⊎◌}
use Rattle.lists.proofs.Reading.{All-read, All-read_all}
use Rattle.geo_core.specs.declared.plane.Labelled.{Labelled}
use Rattle.net_pairs.proofs.ways.have_no_third.Goals as goal
use Rattle.net_pairs.proofs.ways.have_no_third.Goals.{else-zone-one-via-then-zone-one+else-zone-other, else-zone-one-via-else-zone-one}

pub loop-zone-preserved : goal.loop-zone-preserved
loop-zone-preserved c =
    All-read (λ (zone : Labelled). (zone.label ≡ c.args.one) ⊎ (zone.label ≡ c.args.other)) _ _ _ c.loop-zone-test.true c.zone-item.is c.loop-zone.invariant
    (elim c.else-zone-one.branch [
      | else-zone-one-via-then-zone-one+else-zone-other w ↦ inr w.if-zone-other.false
      | else-zone-one-via-else-zone-one w ↦ inl w.if-zone-one.false
    ])

pub returns : goal.returns
returns c t = All-read_all (λ (zone : Labelled). (zone.label ≡ c.args.one) ⊎ (zone.label ≡ c.args.other)) _ _ c.loop-zone-test.false c.loop-zone.invariant
