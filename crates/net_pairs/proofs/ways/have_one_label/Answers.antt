use Rattle.std.proofs.Common.{sym, ◌∙◌, ◌≡◌}
use Rattle.lists.proofs.Reading.{All-read, All-read_all}
use Rattle.lists.proofs.Words.{All-contains}
use Rattle.geo_core.specs.declared.plane.Labelled.{Labelled}
use Rattle.net_pairs.proofs.ways.have_one_label.Goals as goal

pub loop-zone-preserved : goal.loop-zone-preserved
loop-zone-preserved c = All-read (λ (zone : Labelled). zone.label ≡ c.match-first.label) _ _ _ c.loop-zone-test.true c.zone-item.is c.loop-zone.invariant c.if-zone-label.false

pub returns : goal.returns
returns c t a b among other =
    let all = All-read_all (λ (zone : Labelled). zone.label ≡ c.match-first.label) _ _ c.loop-zone-test.false c.loop-zone.invariant in
    All-contains (λ (zone : Labelled). zone.label ≡ c.match-first.label) c.args.zones.now a all among
    ∙ sym (All-contains (λ (zone : Labelled). zone.label ≡ c.match-first.label) c.args.zones.now b all other)
