use Rattle.std.proofs.Common.{refl, sym, ◌≡◌, ◌≢◌}
use Rattle.lists.proofs.Words.{All-contains, false≢true}
use Rattle.geo_core.specs.declared.plane.Labelled.{Labelled}
use Rattle.lists.proofs.Reading.{All-read, All-read_all}
use Rattle.short_area.proofs.labels.have_no_third.Goals as goal
use Rattle.short_area.proofs.labels.have_no_third.Goals.{else-zone-one-via-then-zone-one+else-zone-other, else-zone-one-via-else-zone-one}

pub loop-zone-preserved : goal.loop-zone-preserved
loop-zone-preserved c =
    All-read (λ (zone : Labelled). c.args.one ≢ zone.label → zone.label ≡ c.args.other) _ _ _ c.loop-zone-test.true c.zone-item.is
    c.loop-zone.invariant
    (elim c.else-zone-one.branch [
      | else-zone-one-via-then-zone-one+else-zone-other w ↦ λ n. w.if-zone-other.false
      | else-zone-one-via-else-zone-one w ↦ λ n. absurd (n (sym w.if-zone-one.false))
    ])

pub returns : goal.returns
returns c = (
  λ t. All-read_all (λ (zone : Labelled). c.args.one ≢ zone.label → zone.label ≡ c.args.other) _ _ c.loop-zone-test.false c.loop-zone.invariant,
  λ all. refl,
)

pub returns-then-zone-other : goal.returns-then-zone-other
returns-then-zone-other c = (
  λ t. absurd (false≢true t),
  λ all.
      let among = All-contains (λ (zone : Labelled). c.args.one ≢ zone.label → zone.label ≡ c.args.other) c.args.zones.now c.zone-item.result all
      (c.loop-zone.zone-index, c.loop-zone-test.true, sym c.zone-item.is) in
      absurd (c.if-zone-other.true (among (λ e. c.if-zone-one.true (sym e)))),
)
